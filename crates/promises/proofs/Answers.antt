-- Two results that a promise of `answers` allows for the same arguments are one. Assumes nothing.
use mathlib.Core.Path.{sym, ◌∙◌}
use contract.Lifetimes.{Lfts}
use Rattle.promises.proofs.Settled.{Settled}
use Rattle.answers.proofs.AnswerFromResultUnitRefusal.from.Reads as answer-from
use Rattle.answers.proofs.SizesAnswerFromResultSizesRefusal.from.Reads as sizes-from
use Rattle.answers.proofs.MapAnswerFromResultFourRefusal.from.Reads as map-from
use Rattle.answers.proofs.RoleAnswerFromRole.from.Reads as role-from
use Rattle.answers.proofs.RoleAnswerFromResultRoleRefusal.from.Reads as located-from
use Rattle.answers.proofs.AuditAnswerFromResultFoundRefusal.from.Reads as audit-from
use Rattle.answers.proofs.CountAnswerFromResultU32Refusal.from.Reads as count-from

pub answer_two_results : (κs : Lfts 0) → Settled (answer-from.Post κs)
answer_two_results κs a x y r s p q = p ∙ sym q

pub sizes_two_results : (κs : Lfts 0) → Settled (sizes-from.Post κs)
sizes_two_results κs a x y r s p q = p ∙ sym q

pub map_two_results : (κs : Lfts 0) → Settled (map-from.Post κs)
map_two_results κs a x y r s p q = p ∙ sym q

pub role_two_results : (κs : Lfts 0) → Settled (role-from.Post κs)
role_two_results κs a x y r s p q = p ∙ sym q

pub located_two_results : (κs : Lfts 0) → Settled (located-from.Post κs)
located_two_results κs a x y r s p q = p ∙ sym q

pub audit_two_results : (κs : Lfts 0) → Settled (audit-from.Post κs)
audit_two_results κs a x y r s p q = p ∙ sym q

pub count_two_results : (κs : Lfts 0) → Settled (count-from.Post κs)
count_two_results κs a x y r s p q = p ∙ sym q
