-- What a C caller hears: the header's "`refusal` is 0 where the call is accepted and else one of the numbers below, with its
-- `place`". Assumes nothing.
use Rattle.std.specs.Prelude.{ℕ, zero, suc}
use Rattle.refusal.specs.Refusal.{Outcome, refused, accepted}
use Rattle.answers.specs.declared.Answer.{Answer}
use Rattle.answers.specs.declared.SizesAnswer.{SizesAnswer}
use Rattle.answers.specs.declared.MapAnswer.{MapAnswer}
use Rattle.answers.specs.declared.RoleAnswer.{RoleAnswer}
use Rattle.answers.specs.declared.AuditAnswer.{AuditAnswer}
use Rattle.answers.specs.declared.CountAnswer.{CountAnswer}

abbrev pub heard : {R : Type 0} → (refusal place : ℕ) → R → Outcome R
heard zero p r = accepted r
heard (suc n) p r = refused (suc n) p

abbrev pub heard_answer : Answer → Outcome Answer
heard_answer r = heard r.refusal r.place r

abbrev pub heard_sizes : SizesAnswer → Outcome SizesAnswer
heard_sizes r = heard r.refusal r.place r

abbrev pub heard_map : MapAnswer → Outcome MapAnswer
heard_map r = heard r.refusal r.place r

abbrev pub heard_role : RoleAnswer → Outcome RoleAnswer
heard_role r = heard r.refusal r.place r

abbrev pub heard_audit : AuditAnswer → Outcome AuditAnswer
heard_audit r = heard r.refusal r.place r

abbrev pub heard_count : CountAnswer → Outcome CountAnswer
heard_count r = heard r.refusal r.place r
