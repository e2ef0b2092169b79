-- Kinds of statements, and the objects of a function.
use Rattle.std.specs.Prelude.{◌≡◌, ◌↔◌, ◌<◌, ℕ, true, List, length, Contains}
use Rattle.nf_base.specs.declared.decl.ObjectId.TheVariants as object
use Rattle.nf_base.specs.Text.{Expression, Given, Guard, Get, Find, Creation, Function}
use Rattle.nf_base.specs.Statements.{Statement, Asks, Makes, is_new, is_lookup}
use Rattle.nf_base.specs.Objects.{ListsObjects}

-- a `new`
pub data IsNew : Statement → Type 0 where
  makes : (n : Creation) → IsNew (Makes n)

-- a `get`, a `find` and a `new` look keys or an index up
pub data LooksUp : Statement → Type 0 where
  gets : (place chain m : ℕ) (key : List Given) (var : ℕ) →
      LooksUp (Asks (Get place chain m key var))
  finds : (place chain : ℕ) (at : Expression) (guards : List Guard) (var : ℕ) →
      LooksUp (Asks (Find place chain at guards var))
  makes_too : (n : Creation) → LooksUp (Makes n)

-- exactly these are counted
pub record IsCounted (s : Statement) : Type 0 where
  pub new_ : (is_new s ≡ true) ↔ IsNew s
  pub lookup : (is_lookup s ≡ true) ↔ LooksUp s

-- so each statement counts
abbrev pub StatementsAreCounted : Type 0
StatementsAreCounted = (s : Statement) → IsCounted s

-- the objects of a function are the chains and the arrays that it has
pub record HasObject (f : Function) (k : ℕ) : Type 0 where
  pub chain : Contains f.objects (object.Chain k) ↔ (k < length f.chains)
  pub array : Contains f.objects (object.Array k) ↔ (k < length f.arrays)

-- so they are, where the function lists its objects
abbrev pub ObjectsAreListed : Type 0
ObjectsAreListed = (f : Function) (k : ℕ) → ListsObjects f → HasObject f k
