-- "That two results allowed by it are equal is itself proved" (01): the two forms of the theorem. A promise P relates the
-- arguments, the result and the arguments at return. Assumes nothing.
use mathlib.Core.Path.{◌≡◌}

-- two results that the promise allows for the same arguments are one
abbrev pub Settled : {A R : Type 0} → (A → R → A → Type 0) → Type 0
Settled {A} {R} P = (a x y : A) (r s : R) → P a r x → P a s y → r ≡ s

-- and what is lent holds the same at return
abbrev pub SettledAt : {A R L : Type 0} → (A → R → A → Type 0) → (A → L) → Type 0
SettledAt {A} {R} P lent = (a x y : A) (r s : R) → P a r x → P a s y → (r ≡ s) × (lent x ≡ lent y)
