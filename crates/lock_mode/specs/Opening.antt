-- What tables are opened as.
use Rattle.std.specs.Prelude.{◌≡◌, ℕ, List, [], length, Some, slice_get}
use Rattle.nf_base.specs.Text.{Function}
use Rattle.nf_base.specs.Step.{opening}
use Rattle.vig_tables.specs.TablesState.{TablesState}
use Rattle.lock_mode.specs.declared.opening.Opened.{Opened}
use Rattle.lock_mode.specs.declared.opening.Opened.TheVariants.{Many, OneSeat}
use Rattle.lock_mode.specs.Seats.{SeatState}

-- where seats share them
abbrev pub IfMany : {S T : Type 0} → Opened S T → (S → T → Type 0) → Type 0
IfMany (Many shared seats) P = P shared seats
IfMany (OneSeat tables) P = Unit {0}

-- where one seat has them
abbrev pub IfOneSeat : {S T : Type 0} → Opened S T → (TablesState → Type 0) → Type 0
IfOneSeat (Many shared seats) P = Unit {0}
IfOneSeat (OneSeat tables) P = P tables

-- a seat that has seen and done nothing, and whose gate has refused nothing
pub record IsNew (seat : ℕ) (s : SeatState) : Type 0 where
  pub number : s.number ≡ seat
  pub seen : s.seen ≡ []
  pub calls : s.calls ≡ []
  pub refused : s.refused ≡ 0

-- so many seats, each at its number
pub record AreNew (count : ℕ) (seats : List SeatState) : Type 0 where
  pub many : length seats ≡ count
  pub each : (k : ℕ) (s : SeatState) → slice_get seats k ≡ Some s → IsNew k s

-- the opening tables of a function, with the whole share
pub record AreOpening (f : Function) (t : TablesState) : Type 0 where
  pub decls : t.decls ≡ f.chains
  pub whole : t.share.of ≡ 1
  pub opens : t.state ≡ opening f
