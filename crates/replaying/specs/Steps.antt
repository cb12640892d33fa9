-- A step as the code does it: from where the tuple's regions begin, which is looked up once for all entries of the log. The
-- design does not enter. Assumes nothing.
use Rattle.std.specs.Prelude.{ℕ, ◌/◌, ◌<◌, List, get_or}
use Rattle.geometry.specs.declared.Geometry.{Geometry}
use Rattle.geometry.specs.Geometry.{bytes_of}
use Rattle.cells.specs.declared.Cell.{Cell}
use Rattle.cells.specs.Cells.{label_of, diagonal_of}
use Rattle.sets.specs.Starts.{RegionsFit, label_starts, diagonal_starts}
use Rattle.reaching.specs.declared.Kind.{Kind}
use Rattle.reaching.specs.declared.Kind.TheVariants.{Outer, Inner}
use Rattle.reaching.specs.Reach.{cell_numbered}
use Rattle.reaching.specs.State.{kind_in}
use Rattle.restoring.specs.Restore.{restored_in, OneOf}

-- regions of a tuple that begin at ps: they lie in the array, and the units of each label and of each diagonal lie apart
pub record RegionsApart (G : Geometry) (ps : List ℕ) : Type 0 where
  pub fit : RegionsFit G ps
  pub label : (i c l : ℕ) → i < G.g → l < G.k → OneOf (bytes_of G) (label_starts G ps i c) l G.u
  pub diagonal : (l j i : ℕ) → l < G.k → i < G.g → OneOf (bytes_of G) (diagonal_starts G (get_or ps l 0) j) i G.u

-- a cell's unit "becomes the XOR of the rest" of its label's set or of its diagonal's
unfoldable pub cell_bytes : Geometry → (ps : List ℕ) → Cell → Kind → List ℕ → List ℕ
cell_bytes G ps x Outer a = restored_in a (label_starts G ps x.row (label_of G x)) x.position G.u
cell_bytes G ps x Inner a = restored_in a (diagonal_starts G (get_or ps x.position 0) (diagonal_of G x)) x.row G.u

-- entry 2·cell + kind of the log of tuple t
unfoldable pub entry_bytes : Geometry → (ps : List ℕ) → (t entry : ℕ) → List ℕ → List ℕ
entry_bytes G ps t e a = cell_bytes G ps (cell_numbered G t (e / 2)) (kind_in e) a
