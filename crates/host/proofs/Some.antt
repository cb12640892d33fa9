-- For all arguments some answer, and something held by the lent lists at return, meet the contract of each exported function: none
-- of the theorems over them is empty. Assumes nothing.
use Prim.Native.Nat.{ℕ}
use mathlib.Core.Path.{refl}
use mathlib.Core.List.{List}
use contract.Lifetimes.{Lfts}
use denote.Ref.{Bor, MutBor, at_last}
use Rattle.answers.specs.declared.Answer.{Answer}
use Rattle.answers.specs.declared.SizesAnswer.{SizesAnswer}
use Rattle.answers.specs.declared.MapAnswer.{MapAnswer}
use Rattle.answers.specs.declared.RoleAnswer.{RoleAnswer}
use Rattle.answers.specs.declared.AuditAnswer.{AuditAnswer}
use Rattle.answers.specs.declared.CountAnswer.{CountAnswer}
use Rattle.host.proofs.Exports.{FillAllowed, CheckAllowed, SizesAllowed, MapAllowed, RoleAllowed, FormatAllowed}
use Rattle.host.proofs.Exports.{ReadAllowed, WriteAllowed, AuditAllowed, PlanAllowed, RebuildAllowed}

pub fill_some_result :
    (κs : Lfts 1) (v : ℕ) (design : MutBor (List ℕ)) → (r : Answer) × (design₁ : MutBor (List ℕ)) × FillAllowed κs v design r design₁
fill_some_result κs v design = (_, at_last design _, (refl, refl))

pub check_some_result :
    (κs : Lfts 1) (v k : ℕ) (design : Bor (List ℕ)) → (r : Answer) × CheckAllowed κs v k design r
check_some_result κs v k design = (_, refl)

pub sizes_some_result :
    (κs : Lfts 1) (v k g u : ℕ) (design : Bor (List ℕ)) → (r : SizesAnswer) × SizesAllowed κs v k g u design r
sizes_some_result κs v k g u design = (_, refl)

pub map_some_result :
    (κs : Lfts 1) (v k g u : ℕ) (design : Bor (List ℕ)) (n : ℕ) → (r : MapAnswer) × MapAllowed κs v k g u design n r
map_some_result κs v k g u design n = (_, refl)

pub role_some_result :
    (κs : Lfts 1) (v k g u : ℕ) (design : Bor (List ℕ)) (disk unit : ℕ) → (r : RoleAnswer) × RoleAllowed κs v k g u design disk unit r
role_some_result κs v k g u design disk unit = (_, refl)

pub format_some_result :
    (κs : Lfts 3) (v k g u : ℕ) (design : Bor (List ℕ)) (array : MutBor (List ℕ)) (marks : MutBor (List ℕ)) → (r : Answer) × (array₁ : MutBor (List ℕ)) × (marks₁ : MutBor (List ℕ)) × FormatAllowed κs v k g u design array marks r array₁ marks₁
format_some_result κs v k g u design array marks = (_, at_last array _, at_last marks _, (refl, refl, refl))

pub read_some_result :
    (κs : Lfts 4) (v k g u : ℕ) (design : Bor (List ℕ)) (array : Bor (List ℕ)) (marks : Bor (List ℕ)) (n : ℕ) (offset : ℕ) (bytes : MutBor (List ℕ)) → (r : Answer) × (bytes₁ : MutBor (List ℕ)) × ReadAllowed κs v k g u design array marks n offset bytes r bytes₁
read_some_result κs v k g u design array marks n offset bytes = (_, at_last bytes _, (refl, refl))

pub write_some_result :
    (κs : Lfts 4) (v k g u : ℕ) (design : Bor (List ℕ)) (array : MutBor (List ℕ)) (marks : Bor (List ℕ)) (n : ℕ) (offset : ℕ) (bytes : Bor (List ℕ)) → (r : Answer) × (array₁ : MutBor (List ℕ)) × WriteAllowed κs v k g u design array marks n offset bytes r array₁
write_some_result κs v k g u design array marks n offset bytes = (_, at_last array _, (refl, refl))

pub audit_some_result :
    (κs : Lfts 2) (v k g u : ℕ) (design : Bor (List ℕ)) (array : Bor (List ℕ)) → (r : AuditAnswer) × AuditAllowed κs v k g u design array r
audit_some_result κs v k g u design array = (_, refl)

pub plan_some_result :
    (κs : Lfts 2) (v k g u : ℕ) (design : Bor (List ℕ)) (disk : ℕ) (list : MutBor (List ℕ)) → (r : CountAnswer) × (list₁ : MutBor (List ℕ)) × PlanAllowed κs v k g u design disk list r list₁
plan_some_result κs v k g u design disk list = (_, at_last list _, (refl, refl))

pub rebuild_some_result :
    (κs : Lfts 3) (v k g u : ℕ) (design : Bor (List ℕ)) (array : MutBor (List ℕ)) (marks : MutBor (List ℕ)) → (r : CountAnswer) × (array₁ : MutBor (List ℕ)) × (marks₁ : MutBor (List ℕ)) × RebuildAllowed κs v k g u design array marks r array₁ marks₁
rebuild_some_result κs v k g u design array marks = (_, at_last array _, at_last marks _, (refl, refl, refl))
