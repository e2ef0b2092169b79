-- Where a `new` of a handler stops.
use Rattle.std.specs.Prelude.{◌&&◌, ◌||◌, nat_lt, Bool}
use Rattle.nf_base.specs.declared.share.Share.{Share}
use Rattle.nf_base.specs.Chains.{is_full}
use Rattle.nf_base.specs.Operations.{Stops}
use Rattle.nf_base.specs.Shares.{owns, none_vacant}
use Rattle.nf_engine.specs.Input.{Input}

-- whether one may: there are several shares, or no `new` is told that its chain is full
abbrev pub may_stop : Bool → Share → Bool
may_stop strict share = strict || nat_lt 1 share.of

-- a `new` stops where no index of the share is vacant
abbrev pub halts : Bool → Share → Stops
halts strict share chain state = may_stop strict share && none_vacant (owns share) state.slots

-- where every `new` of a full chain stops
abbrev pub full_stops : Stops
full_stops chain state = is_full state.slots

-- so a `new` of this handler does
abbrev pub may_halt : Input → Bool
may_halt p = may_stop p.strict p.share

abbrev pub stops_of : Input → Stops
stops_of p = halts p.strict p.share
