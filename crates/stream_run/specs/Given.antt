-- What a run is given: captures that are read, and files that are written.
use Rattle.std.specs.Prelude.{◌≡◌, ◌+◌, ◌^◌, ◌≤◌, ℕ, List, length, slice_get, Some}
use Rattle.nf_base.specs.Doors.{six_ports}
use Rattle.nf_base.specs.Functions.{function_of}
use Rattle.nf_base.specs.declared.func.Func.{Func}
use Rattle.nf_files.specs.Told.{Told, IsEmptyIfTold, IsRead, IsWritten}
use Rattle.packet_feed.specs.Told.{EachFile, IsApart}
use Rattle.packet_feed.specs.Sources.{files_in, sixes_in}
use Rattle.packet_feed.specs.Feeding.{Feeding}

-- a feed reads captures from these files, which are open
pub record ReadsFrom (captures : List ℕ) (feed : Feeding) (told : Told) : Type 0 where
  pub files : files_in feed.sources ≡ captures
  pub opened : EachFile (IsRead told) captures

-- they are one for each port of a function, of which the feed knows the ports that have a handler for IPv6
pub record HasCaptures (func : Func) (captures : List ℕ) (feed : Feeding) (told : Told) : Type 0 where
  pub reads : ReadsFrom captures feed told
  pub six : sixes_in feed.sources ≡ six_ports (function_of func)
  pub ports : length captures ≡ length func.handlers

-- files that were created, none of them twice
pub record AreWritable (told : Told) (files : List ℕ) : Type 0 where
  pub created : EachFile (IsWritten told) files
  pub apart : IsApart files

-- They are an output for each port of a function, and the journal behind them. Nothing was given to them
-- yet.
pub record HasTargets (func : Func) (targets : List ℕ) (told : Told) : Type 0 where
  pub writable : AreWritable told targets
  pub as_many : length targets ≡ length func.handlers + 1
  pub few : length targets ≤ 2 ^ 32
  pub empty : (k file : ℕ) → slice_get targets k ≡ Some file → IsEmptyIfTold (told.given file)
