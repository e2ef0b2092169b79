use Rattle.std.proofs.Common.{◌<◌, ◌∙◌, ℕ, length, List, sym, ap, refl, subst, arith}
use Rattle.std.specs.List.{slice_get}
use Rattle.std.proofs.lemmas.Option.{slice_get_read, slice_get_within}
use Rattle.packet_feed.specs.Told.{IsApart}
use Rattle.packet_feed.specs.Streams.{Stream}
use Rattle.packet_feed.specs.Sources.{files_in}
use Rattle.packet_feed.proofs.Gathering.{map_kept}
use Rattle.packet_feed.proofs.Standing.{filled_stands, file_at, same_length, kept_more, settled_more, faulted_at}
use Rattle.packet_feed.proofs.Times.{from_more}
use Rattle.packet_feed.proofs.sources.fill_all.Goals as goal

pub fill-requires : goal.fill-requires
fill-requires g c =
    let now = c.loop-port.sources in
    let port = c.loop-port.port in
    let s = c.item_mut.result.now in
    let lt : port < length now = omega (arith, c.len-port-end.ensures, c.loop-port-test.true, same_length now c.args.sources.now c.loop-port.invariant.same_files) in
    let at = slice_get_read now (length now) port s refl lt c.item_mut.ensures.value in
    let file = sym (ap (λ (fs : List ℕ). slice_get fs port) c.loop-port.invariant.same_files) ∙ file_at now port s at in
    record { opened = c.loop-port.invariant.kept.kinds s.reading.file ∙ c.requires.opened port s.reading.file file }

pub returns-in-Err-clause-same_files : goal.returns-in-Err-clause-same_files
returns-in-Err-clause-same_files g c =
    let now = c.loop-port.sources in
    let port = c.loop-port.port in
    let s = c.item_mut.result.now in
    let lt : port < length now = omega (arith, c.len-port-end.ensures, c.loop-port-test.true, same_length now c.args.sources.now c.loop-port.invariant.same_files) in
    let at = slice_get_read now (length now) port s refl lt c.item_mut.ensures.value in
    map_kept (λ (x : Stream). x.reading.file) now port s c.fill.new.self at c.fill.ensures.same_file ∙ c.loop-port.invariant.same_files

pub returns-in-Err-clause-same_six : goal.returns-in-Err-clause-same_six
returns-in-Err-clause-same_six g c =
    let now = c.loop-port.sources in
    let port = c.loop-port.port in
    let s = c.item_mut.result.now in
    let lt : port < length now = omega (arith, c.len-port-end.ensures, c.loop-port-test.true, same_length now c.args.sources.now c.loop-port.invariant.same_files) in
    let at = slice_get_read now (length now) port s refl lt c.item_mut.ensures.value in
    map_kept (λ (x : Stream). x.six) now port s c.fill.new.self at c.fill.ensures.same_six ∙ c.loop-port.invariant.same_six

pub returns-in-Err-clause-same_counts : goal.returns-in-Err-clause-same_counts
returns-in-Err-clause-same_counts g c =
    let now = c.loop-port.sources in
    let port = c.loop-port.port in
    let s = c.item_mut.result.now in
    let lt : port < length now = omega (arith, c.len-port-end.ensures, c.loop-port-test.true, same_length now c.args.sources.now c.loop-port.invariant.same_files) in
    let at = slice_get_read now (length now) port s refl lt c.item_mut.ensures.value in
    map_kept (λ (x : Stream). x.seq) now port s c.fill.new.self at c.fill.ensures.same_count ∙ c.loop-port.invariant.same_counts

pub returns-in-Err-clause-kept : goal.returns-in-Err-clause-kept
returns-in-Err-clause-kept g c =
    let told = g.F.Files.told in
    let now = c.loop-port.sources in
    let port = c.loop-port.port in
    let s = c.item_mut.result.now in
    let lt : port < length now = omega (arith, c.len-port-end.ensures, c.loop-port-test.true, same_length now c.args.sources.now c.loop-port.invariant.same_files) in
    let at = slice_get_read now (length now) port s refl lt c.item_mut.ensures.value in
    let file = sym (ap (λ (fs : List ℕ). slice_get fs port) c.loop-port.invariant.same_files) ∙ file_at now port s at in
    kept_more (files_in c.args.sources.now) port s.reading.file (told c.args.files.now) (told c.loop-port.files) (told c.fill.new.files) file c.loop-port.invariant.kept c.fill.ensures.kept

pub returns-in-Err-clause-cause : goal.returns-in-Err-clause-cause
returns-in-Err-clause-cause g c =
    let now = c.loop-port.sources in
    let port = c.loop-port.port in
    let s = c.item_mut.result.now in
    let lt : port < length now = omega (arith, c.len-port-end.ensures, c.loop-port-test.true, same_length now c.args.sources.now c.loop-port.invariant.same_files) in
    let at = slice_get_read now (length now) port s refl lt c.item_mut.ensures.value in
    let file = sym (ap (λ (fs : List ℕ). slice_get fs port) c.loop-port.invariant.same_files) ∙ file_at now port s at in
    faulted_at (Unit {0}) (Unit {0}) (g.F.Files.counted c.args.files.now) (g.F.Files.counted c.loop-port.files) (g.F.Files.counted c.fill.new.files) (files_in c.args.sources.now) port s.reading.file c.in-Err.fault c.at.result file c.at.ensures c.loop-port.invariant.count c.in-Err.ensures.cause

pub loop-port-preserved : goal.loop-port-preserved
loop-port-preserved g c =
    let told = g.F.Files.told in
    let now = c.loop-port.sources in
    let port = c.loop-port.port in
    let s = c.item_mut.result.now in
    let f = s.reading.file in
    let inv = c.loop-port.invariant in
    let lt : port < length now = omega (arith, c.len-port-end.ensures, c.loop-port-test.true, same_length now c.args.sources.now inv.same_files) in
    let at = slice_get_read now (length now) port s refl lt c.item_mut.ensures.value in
    let file = sym (ap (λ (fs : List ℕ). slice_get fs port) inv.same_files) ∙ file_at now port s at in
    let apart = subst (λ (fs : List ℕ). IsApart fs) (sym inv.same_files) c.requires.apart in
    record {
      stand = λ start given h. filled_stands start given now port s c.fill.new.self (told c.loop-port.files) (told c.fill.new.files) apart at c.fill.ensures.same_file c.fill.ensures.same_six c.in-Ok.ensures.filled c.fill.ensures.kept (inv.stand start given h);
      settled = settled_more now port c.fill.new.self c.in-Ok.ensures.filled.settled inv.settled;
      later = λ time h. from_more time now port s c.fill.new.self at (c.in-Ok.ensures.later time) (inv.later time h);
      same_files = map_kept (λ (x : Stream). x.reading.file) now port s c.fill.new.self at c.fill.ensures.same_file ∙ inv.same_files;
      same_six = map_kept (λ (x : Stream). x.six) now port s c.fill.new.self at c.fill.ensures.same_six ∙ inv.same_six;
      same_counts = map_kept (λ (x : Stream). x.seq) now port s c.fill.new.self at c.fill.ensures.same_count ∙ inv.same_counts;
      kept = kept_more (files_in c.args.sources.now) port f (told c.args.files.now) (told c.loop-port.files) (told c.fill.new.files) file inv.kept c.fill.ensures.kept;
      count = c.in-Ok.ensures.cause ∙ inv.count;
    }

pub returns-clause-settled : goal.returns-clause-settled
returns-clause-settled g c = λ port s e.
    let now = c.loop-port.sources in
    let inside : port < length now = slice_get_within now port s e in
    c.loop-port.invariant.settled port s (omega (arith, c.len-port-end.ensures, c.loop-port-test.false, same_length now c.args.sources.now c.loop-port.invariant.same_files)) e
