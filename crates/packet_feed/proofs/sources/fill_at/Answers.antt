use Rattle.std.proofs.Common.{length, refl}
use Rattle.std.proofs.lemmas.Option.{slice_get_read}
use Rattle.packet_feed.specs.Streams.{Stream}
use Rattle.packet_feed.specs.Sources.{files_in}
use Rattle.packet_feed.proofs.Gathering.{map_kept}
use Rattle.nf_files.proofs.Changed.{got_other}
use Rattle.packet_feed.proofs.Standing.{file_at, filled_stands, kept_none, kept_more, faulted_at}
use Rattle.packet_feed.proofs.Times.{from_more}
use Rattle.packet_feed.proofs.ByPort.{filled_by_port, settled_there}
use Rattle.packet_feed.proofs.sources.fill_at.Goals as goal

pub fill-requires : goal.fill-requires
fill-requires g c =
    let all = c.args.sources.now in
    let s = c.item_mut.result.now in
    let at = slice_get_read all (length all) c.args.port s refl c.requires.inside c.item_mut.ensures.value in
    record { opened = c.requires.opened c.args.port s.reading.file (file_at all c.args.port s at) }

pub returns-in-Ok-clause-stand : goal.returns-in-Ok-clause-stand
returns-in-Ok-clause-stand g c = λ start given h.
    let told = g.F.Files.told in
    let all = c.args.sources.now in
    let s = c.item_mut.result.now in
    let at = slice_get_read all (length all) c.args.port s refl c.requires.inside c.item_mut.ensures.value in
    filled_by_port start given all c.args.port s c.fill.new.self (told c.args.files.now) (told c.fill.new.files) c.requires.apart at c.fill.ensures.same_file c.fill.ensures.same_six c.in-Ok.ensures.filled c.fill.ensures.kept h

pub returns-in-Ok-clause-all : goal.returns-in-Ok-clause-all
returns-in-Ok-clause-all g c = λ start given h.
    let told = g.F.Files.told in
    let all = c.args.sources.now in
    let s = c.item_mut.result.now in
    let at = slice_get_read all (length all) c.args.port s refl c.requires.inside c.item_mut.ensures.value in
    filled_stands start given all c.args.port s c.fill.new.self (told c.args.files.now) (told c.fill.new.files) c.requires.apart at c.fill.ensures.same_file c.fill.ensures.same_six c.in-Ok.ensures.filled c.fill.ensures.kept h

pub returns-in-Ok-clause-others : goal.returns-in-Ok-clause-others
returns-in-Ok-clause-others g c = λ p other. got_other c.args.sources.now c.args.port p c.fill.new.self other

pub returns-in-Err-clause-others : goal.returns-in-Err-clause-others
returns-in-Err-clause-others g c = λ p other. got_other c.args.sources.now c.args.port p c.fill.new.self other

pub returns-in-Ok-clause-later : goal.returns-in-Ok-clause-later
returns-in-Ok-clause-later g c = λ time h.
    let all = c.args.sources.now in
    let s = c.item_mut.result.now in
    let at = slice_get_read all (length all) c.args.port s refl c.requires.inside c.item_mut.ensures.value in
    from_more time all c.args.port s c.fill.new.self at (c.in-Ok.ensures.later time) h

pub returns-in-Ok-clause-settled : goal.returns-in-Ok-clause-settled
returns-in-Ok-clause-settled g c = settled_there c.args.sources.now c.args.port c.fill.new.self c.in-Ok.ensures.filled.settled

pub returns-in-Ok-clause-same_files : goal.returns-in-Ok-clause-same_files
returns-in-Ok-clause-same_files g c =
    let all = c.args.sources.now in
    let s = c.item_mut.result.now in
    let at = slice_get_read all (length all) c.args.port s refl c.requires.inside c.item_mut.ensures.value in
    map_kept (λ (x : Stream). x.reading.file) all c.args.port s c.fill.new.self at c.fill.ensures.same_file

pub returns-in-Ok-clause-same_six : goal.returns-in-Ok-clause-same_six
returns-in-Ok-clause-same_six g c =
    let all = c.args.sources.now in
    let s = c.item_mut.result.now in
    let at = slice_get_read all (length all) c.args.port s refl c.requires.inside c.item_mut.ensures.value in
    map_kept (λ (x : Stream). x.six) all c.args.port s c.fill.new.self at c.fill.ensures.same_six

pub returns-in-Ok-clause-same_counts : goal.returns-in-Ok-clause-same_counts
returns-in-Ok-clause-same_counts g c =
    let all = c.args.sources.now in
    let s = c.item_mut.result.now in
    let at = slice_get_read all (length all) c.args.port s refl c.requires.inside c.item_mut.ensures.value in
    map_kept (λ (x : Stream). x.seq) all c.args.port s c.fill.new.self at c.fill.ensures.same_count

pub returns-in-Ok-clause-kept : goal.returns-in-Ok-clause-kept
returns-in-Ok-clause-kept g c =
    let told = g.F.Files.told in
    let all = c.args.sources.now in
    let s = c.item_mut.result.now in
    let at = slice_get_read all (length all) c.args.port s refl c.requires.inside c.item_mut.ensures.value in
    kept_more (files_in all) c.args.port s.reading.file (told c.args.files.now) (told c.args.files.now) (told c.fill.new.files) (file_at all c.args.port s at) (kept_none (files_in all) (told c.args.files.now)) c.fill.ensures.kept

pub returns-in-Err-clause-same_files : goal.returns-in-Err-clause-same_files
returns-in-Err-clause-same_files g c =
    let all = c.args.sources.now in
    let s = c.item_mut.result.now in
    let at = slice_get_read all (length all) c.args.port s refl c.requires.inside c.item_mut.ensures.value in
    map_kept (λ (x : Stream). x.reading.file) all c.args.port s c.fill.new.self at c.fill.ensures.same_file

pub returns-in-Err-clause-same_six : goal.returns-in-Err-clause-same_six
returns-in-Err-clause-same_six g c =
    let all = c.args.sources.now in
    let s = c.item_mut.result.now in
    let at = slice_get_read all (length all) c.args.port s refl c.requires.inside c.item_mut.ensures.value in
    map_kept (λ (x : Stream). x.six) all c.args.port s c.fill.new.self at c.fill.ensures.same_six

pub returns-in-Err-clause-same_counts : goal.returns-in-Err-clause-same_counts
returns-in-Err-clause-same_counts g c =
    let all = c.args.sources.now in
    let s = c.item_mut.result.now in
    let at = slice_get_read all (length all) c.args.port s refl c.requires.inside c.item_mut.ensures.value in
    map_kept (λ (x : Stream). x.seq) all c.args.port s c.fill.new.self at c.fill.ensures.same_count

pub returns-in-Err-clause-kept : goal.returns-in-Err-clause-kept
returns-in-Err-clause-kept g c =
    let told = g.F.Files.told in
    let all = c.args.sources.now in
    let s = c.item_mut.result.now in
    let at = slice_get_read all (length all) c.args.port s refl c.requires.inside c.item_mut.ensures.value in
    kept_more (files_in all) c.args.port s.reading.file (told c.args.files.now) (told c.args.files.now) (told c.fill.new.files) (file_at all c.args.port s at) (kept_none (files_in all) (told c.args.files.now)) c.fill.ensures.kept

pub returns-in-Err-clause-cause : goal.returns-in-Err-clause-cause
returns-in-Err-clause-cause g c =
    let all = c.args.sources.now in
    let s = c.item_mut.result.now in
    let at = slice_get_read all (length all) c.args.port s refl c.requires.inside c.item_mut.ensures.value in
    faulted_at (Unit {0}) (Unit {0}) (g.F.Files.counted c.args.files.now) (g.F.Files.counted c.args.files.now) (g.F.Files.counted c.fill.new.files) (files_in all) c.args.port s.reading.file c.in-Err.fault c.at.result (file_at all c.args.port s at) c.at.ensures refl c.in-Err.ensures.cause
