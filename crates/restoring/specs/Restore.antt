-- 01, "Calls" (rebuild): one unit of a set becomes "the XOR of the rest". Nothing here knows of disks. Assumes nothing.
use Rattle.std.specs.Prelude.{ℕ, suc, ◌+◌, ◌<◌, List, ◌++◌, get_or, length, take, drop}
use Rattle.leaves.specs.Bytes.{sums, Inside, Spread}

-- the list with xs laid over it from p on [where xs ends inside it]
unfoldable pub stored : List ℕ → (p : ℕ) → List ℕ → List ℕ
stored a p xs = take p a ++ (xs ++ drop (p + length xs) a)

-- the rest of a set whose units begin at ps: all but the q-th
abbrev pub rest_of : List ℕ → (q : ℕ) → List ℕ
rest_of ps q = take q ps ++ drop (suc q) ps

-- the q-th of these units, u bytes long, becomes "the XOR of the rest"
unfoldable pub restored_in : List ℕ → (ps : List ℕ) → (q u : ℕ) → List ℕ
restored_in a ps q u = stored a (get_or ps q 0) (sums a (rest_of ps q) 0 u)

-- runs of u bytes inside m bytes, apart from each other, one of which is the q-th
pub record OneOf (m : ℕ) (ps : List ℕ) (q u : ℕ) : Type 0 where
  pub inside : Inside m ps u
  pub spread : Spread ps u
  pub below : q < length ps
