-- The text places of events.
use Rattle.std.specs.Prelude.{◌≡◌, ◌↔◌, ◌<◌, ℕ, Bool, List, [], ◌∷◌, ◌++◌, Option, Some, Contains}
use Rattle.std.specs.List.{flat_map}
use Rattle.nf_base.specs.Doors.{blocks}
use Rattle.nf_base.specs.Text.{Block, Function}
use Rattle.nf_base.specs.Statements.{Statement, statements}
use Rattle.nf_base.specs.Context.{Context, Input}
use Rattle.nf_base.specs.Operations.{Stops, NewResult}
use Rattle.nf_base.specs.Events.{Event, Tested, LookedUp, Found, AskedNew, CellRead, CellWritten}
use Rattle.nf_base.specs.Course.{events}
use Rattle.nf_base.specs.Record.{text_place}
use Rattle.nf_base.specs.TextPlaces.{own_place, places_in, all_statements, HasPlaces}

-- a question, a `new` and an access to a cell stand at a place
pub data StandsAt : Event → ℕ → Type 0 where
  tested : (place : ℕ) (holds : Bool) → StandsAt (Tested place holds) place
  looked_up : (place chain m : ℕ) (key : List ℕ) (hit : Option ℕ) →
      StandsAt (LookedUp place chain m key hit) place
  found : (place chain : ℕ) (hit : Option ℕ) → StandsAt (Found place chain hit) place
  asked : (place chain : ℕ) (labels : List ℕ) (result : NewResult) →
      StandsAt (AskedNew place chain labels result) place
  read : (place array i : ℕ) → StandsAt (CellRead place array i) place
  written : (place array i : ℕ) (changed : Bool) →
      StandsAt (CellWritten place array i changed) place

-- exactly these events have a place
abbrev pub EventsStandAtPlaces : Type 0
EventsStandAtPlaces = (e : Event) (place : ℕ) → (text_place e ≡ Some place) ↔ StandsAt e place

-- and the place is one of the text's
abbrev pub PlacesAreOfTheText : Type 0
PlacesAreOfTheText =
    (stops : Stops) (p : Input) (block : Block) (c : Context) (e : Event) (place : ℕ) →
    Contains (events stops p block c (λ _. [])) e → text_place e ≡ Some place →
    Contains (flat_map places_in (statements block)) place

-- a place of a text is that of one statement alone
abbrev pub PlacesAreOfOneStatement : Type 0
PlacesAreOfOneStatement =
    (f : Function) (earlier later : List Statement) (s t : Statement) (place : ℕ) →
    HasPlaces f → all_statements f ≡ earlier ++ s ∷ later → Contains later t →
    Contains (places_in s) place → Contains (places_in t) place → ⊥

-- and a statement's own place is below those of the statements behind it in its handler
abbrev pub PlacesRise : Type 0
PlacesRise =
    (f : Function) (block : Block) (earlier later : List Statement) (s t : Statement) (a b : ℕ) →
    HasPlaces f → Contains (blocks f) block → statements block ≡ earlier ++ s ∷ later →
    Contains later t → Contains (own_place s) a → Contains (own_place t) b → a < b
