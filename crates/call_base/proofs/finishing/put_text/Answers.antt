use Rattle.std.proofs.Common.{inr}
use Rattle.call_base.specs.Outside.{seen}
use Rattle.call_base.proofs.Stops.{fault_stops}
use Rattle.call_base.proofs.finishing.put_text.Goals as goal

pub returns-in-Ok-write_whole : goal.returns-in-Ok-write_whole
returns-in-Ok-write_whole g c =
    let told = g.F.Files.told in
    let counted = g.F.Files.counted in
    record {
      mid = seen (told c.create_next.new.files) (counted c.create_next.new.files);
      file = c.in-Ok.file;
      begun = record { created = c.in-Ok.ensures.ok; asked_for = c.in-Ok.ensures.cause };
      wrote = c.in-Ok-write_whole.ensures.wrote;
      counted = c.in-Ok-write_whole.ensures.cause;
    }

pub returns-in-Err-write_whole : goal.returns-in-Err-write_whole
returns-in-Err-write_whole g c =
    let told = g.F.Files.told in
    let counted = g.F.Files.counted in
    let mid = seen (told c.create_next.new.files) (counted c.create_next.new.files) in
    let b = seen (told c.write_whole.new.files) (counted c.write_whole.new.files) in
    let stops = fault_stops (Unit {0}) mid.counted b.counted c.in-Ok.file c.in-Err-write_whole.fault c.of.result c.of.ensures c.in-Err-write_whole.ensures.cause in
    inr (inr (record {
      mid = mid;
      file = c.in-Ok.file;
      begun = record { created = c.in-Ok.ensures.ok; asked_for = c.in-Ok.ensures.cause };
      wrote = c.in-Err-write_whole.ensures.wrote;
      at = stops.0;
      cause = stops.1;
    }))
