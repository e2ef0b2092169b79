-- A block that came to its end, as one of all.
use Rattle.nf_base.specs.Text.{Block}
use Rattle.vig_tables.specs.TablesState.{TablesState}
use Rattle.nf_engine.specs.declared.context.Context.{Context}
use Rattle.nf_engine.specs.declared.context.Flow.{Flow}
use Rattle.nf_engine.specs.declared.context.Flow.TheVariants.{Falls, Drop, Flood, To}
use Rattle.nf_engine.specs.Input.{Input}
use Rattle.nf_engine.specs.Course.{Comes, Goes}
use Rattle.nf_engine.specs.View.{completion_of, went_of}

pub goes_to_end : (flow : Flow) (p : Input) (b : Block) (t u : TablesState) (old new : Context) → Comes p b t old u new (completion_of flow) → Goes (went_of flow) p b t old u new
goes_to_end Falls p b t u old new h = h
goes_to_end Drop p b t u old new h = h
goes_to_end Flood p b t u old new h = h
goes_to_end (To port) p b t u old new h = h
