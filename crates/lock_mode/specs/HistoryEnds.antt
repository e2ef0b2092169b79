-- The end of the history.
use Rattle.std.specs.Prelude.{◌≡◌, ℕ, ◌<◌, List, length, get_or, Option, Some, None}
use Rattle.nf_base.specs.Text.{Function}
use Rattle.vig_tables.specs.TablesState.{TablesState}
use Rattle.lock_core.specs.declared.call.Entry.{Entry}
use Rattle.lock_core.specs.Calls.{count_of}
use Rattle.lock_mode.specs.TableCopies.{RanTo}

-- by seat, how many entries of a history are the seat's
abbrev pub AreCounts : List Entry → List ℕ → Type 0
AreCounts entries counts =
    (seat d : ℕ) → seat < length counts → get_or counts seat d ≡ count_of seat entries

-- tables where a history ends, and how many of its entries each of so many seats has
pub record IsHistoryEnd (f of_history_end : Function) (seats : ℕ) (t : TablesState)
    (entries : List Entry)
    (counts : List ℕ) : Type 0 where
  pub same : of_history_end ≡ f
  pub each : length counts ≡ seats
  pub ran : RanTo f t entries
  pub counted : AreCounts entries counts

-- where a history ends, if that end is there
abbrev pub end_of : Option (List Entry) → List Entry → List Entry
end_of (Some entries) history = entries
end_of None history = history
