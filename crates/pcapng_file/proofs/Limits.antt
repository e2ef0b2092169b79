-- The rows at the limits, worked out.
use Rattle.std.proofs.Common.{refl}
use Rattle.pcapng_file.specs.Options.{resolution_within, resolution_in}
use Rattle.pcapng_file.specs.Captures.{stream_within, stream_from}
use Rattle.pcapng_file.specs.Limits.{LimitRows}

pub limit_rows : LimitRows
unfolding resolution_within resolution_in stream_within stream_from
limit_rows = record {
  last_byte = refl;
  past_it = refl;
  last_quiet = refl;
  too_quiet = refl;
  one_after_another = refl;
  not_quiet = refl;
  last_interface = refl;
  too_many = refl;
  no_bound = refl;
  a_bound = refl;
  a_wide_bound = refl;
  no_data = refl;
  too_few = refl;
}
