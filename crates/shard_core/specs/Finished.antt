-- What finishing comes to.
use Rattle.std.specs.Prelude.{◌≡◌, List, length, map, Some}
use Rattle.nf_base.specs.Functions.{function_of}
use Rattle.nf_base.specs.Runs.{RunResult, run}
use Rattle.nf_base.specs.Step.{opening}
use Rattle.vig_tables.specs.TablesState.{TablesState}
use Rattle.vig_tables.specs.Union.{owner_among, state_in, HasNamesApart, IsUnion}
use Rattle.shard_machine.specs.Machine.{Setup, Machine, packets_of, dones_of, lines_of}
use Rattle.shard_core.specs.Held.{Held}
use Rattle.shard_core.specs.Sharded.{Sharded}

-- the tables of some workers
abbrev pub tables_in : List Held → List TablesState
tables_in workers = map (λ (h : Held). h.tables) workers

-- Tables with the whole share hold the union of the workers' states, without what is past its
-- lifetime at the time of the last handled packet that was collected.
pub record IsMergeOf (v : Sharded) (tables : TablesState) : Type 0 where
  pub decls : tables.decls ≡ v.func.chains
  pub share : tables.share.of ≡ 1
  pub union :
      HasNamesApart (owner_among (length (tables_in v.workers))) (function_of v.func) v.time
      (state_in (tables_in v.workers)) →
      IsUnion (owner_among (length (tables_in v.workers))) (function_of v.func) v.time
      (length (tables_in v.workers)) (state_in (tables_in v.workers)) tables.state

-- All packets that were dispatched are collected, and tables with the whole share hold the last
-- state of the run of all of them by one worker, which gives each the answer that was collected.
pub record Finishes (x : Setup) (m : Machine) (tables : TablesState) : Type 0 where
  pub all : packets_of m.collected ≡ m.dispatched
  pub ran : RunResult
  pub is : run x.function (opening x.function) (lines_of m.collected) ≡ Some ran
  pub answers : ran.answers ≡ dones_of m.collected
  pub decls : tables.decls ≡ x.function.chains
  pub state : tables.state ≡ ran.state
  pub share : tables.share.of ≡ 1
