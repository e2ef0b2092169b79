use Rattle.std.proofs.Common.{◌≡◌, ◌∙◌, ◌++◌, ◌∷◌, [], ℕ, List, length, refl, sym, ap, subst}
use Rattle.packet_feed.specs.Arrivals.{Arrival}
use Rattle.packet_feed.specs.Sources.{files_in}
use Rattle.stream_run.proofs.Held.{but_none, read_on}
use Rattle.sharded_run.specs.Reading.{Gathers}
use Rattle.sharded_run.proofs.Gathered.{gathers_none, gathers_more}
use Rattle.stream_run.proofs.Went.{still_opened}
use Rattle.locked_run.proofs.reading.read_all.Goals as goal

pub packets-init : goal.packets-init
packets-init g c =
    let told = g.F.Files.told c.args.files.now in
    let ports = length c.args.captures.now in
    record {
      gathers = subst (λ (as_list : List Arrival). Gathers ports c.args.feed.now c.args.feed.now told told as_list) (sym c.requires.empty) (gathers_none ports c.args.feed.now told);
      captures = c.requires.captures;
      kept = λ targets. but_none targets told;
      count = refl;
    }

pub returns-in-Ok-End-clause-kept : goal.returns-in-Ok-End-clause-kept
returns-in-Ok-End-clause-kept g c = λ targets.
    let told = g.F.Files.told in
    read_on targets (files_in c.packets.feed.sources) (told c.args.files.now) (told c.packets.files) (told c.next.new.files) (c.packets.invariant.kept targets) c.next.ensures.kept

pub returns-in-Ok-TooMany-clause-kept : goal.returns-in-Ok-TooMany-clause-kept
returns-in-Ok-TooMany-clause-kept g c = λ targets.
    let told = g.F.Files.told in
    read_on targets (files_in c.packets.feed.sources) (told c.args.files.now) (told c.packets.files) (told c.next.new.files) (c.packets.invariant.kept targets) c.next.ensures.kept

pub returns-in-Err-keep-clause-kept : goal.returns-in-Err-keep-clause-kept
returns-in-Err-keep-clause-kept g c = λ targets.
    let told = g.F.Files.told in
    read_on targets (files_in c.packets.feed.sources) (told c.args.files.now) (told c.packets.files) (told c.next.new.files) (c.packets.invariant.kept targets) c.next.ensures.kept

pub returns-in-Err-clause-kept : goal.returns-in-Err-clause-kept
returns-in-Err-clause-kept g c = λ targets.
    let told = g.F.Files.told in
    read_on targets (files_in c.packets.feed.sources) (told c.args.files.now) (told c.packets.files) (told c.next.new.files) (c.packets.invariant.kept targets) c.next.ensures.kept

pub packets-preserved : goal.packets-preserved
packets-preserved g c =
    let told = g.F.Files.told in
    let inv = c.packets.invariant in
    let ports = length c.args.captures.now in
    let ok = c.in-Ok-Packet.ensures in
    let counts = rw c.in-Ok-Packet.field-0-is at ok.counts in
    let packet = c.in-Ok-Packet.packet in
    let one : Arrival = record { packet = packet; original = c.original.result; frame = c.frame.result.now } in
    let pushed : c.keep.new.batch ≡ c.packets.batch ++ one ∷ [] = c.in-Ok.ensures.ok in
    record {
      gathers = subst (λ (as_list : List Arrival). Gathers ports c.args.feed.now c.next.new.self (told c.args.files.now) (told c.next.new.files) as_list) (sym pushed)
          (gathers_more ports c.args.feed.now c.packets.feed c.next.new.self (told c.args.files.now) (told c.packets.files) (told c.next.new.files) c.packets.batch packet c.original.result c.frame.result.now inv.gathers
          (rw c.in-Ok-Packet.field-0-is at ok.feeds) (rw c.in-Ok-Packet.field-0-is at ok.times) counts.0 counts.1 counts.2 c.next.ensures.same.most c.next.ensures.same.files c.next.ensures.same.six c.original.ensures c.frame.ensures c.in-Ok.ensures.input
          (ap (λ (fs : List ℕ). length fs) c.requires.captures));
      captures = c.next.ensures.same.files ∙ inv.captures;
      kept = λ targets. read_on targets (files_in c.packets.feed.sources) (told c.args.files.now) (told c.packets.files) (told c.next.new.files) (inv.kept targets) c.next.ensures.kept;
      count = ok.cause ∙ inv.count;
    }

pub next-requires : goal.next-requires
next-requires g c =
    let told = g.F.Files.told in
    let inv = c.packets.invariant in
    record { opened = still_opened [] c.args.captures.now (files_in c.packets.feed.sources) (told c.args.files.now) (told c.packets.files) (inv.kept []) inv.captures c.requires.opened }
