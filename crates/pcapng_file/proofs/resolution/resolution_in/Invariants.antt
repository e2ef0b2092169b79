use Rattle.std.proofs.Common.{◌≡◌, ◌≤◌, ◌-◌, length, drop}
use Rattle.pcapng_file.specs.Options.{resolution_in}
use Rattle.pcapng_file.proofs.resolution.resolution_in.Given as goal

-- what is left says the same of the unit as the whole list
abbrev pub invariant-loop-at : goal.invariant-loop-at
invariant-loop-at l = record {
  within : l.at ≤ length l.options;
  same : resolution_in l.order l.options ≡ resolution_in l.order (drop l.at l.options);
}

abbrev pub decreases-loop-at : goal.decreases-loop-at
decreases-loop-at l = length l.options - l.at
