use Rattle.std.proofs.Common.{◌∙◌, ℕ, List, Ok, length, ap, refl, sym, arith}
use Rattle.nf_base.specs.Functions.{function_of}
use Rattle.packet_feed.specs.Feeding.{last_packet, original_of, frame_of}
use Rattle.packet_feed.specs.Sources.{files_in}
use Rattle.packet_feed.specs.declared.moved.Moved.{Moved}
use Rattle.packet_feed.proofs.Served.{shown_served}
use Rattle.stream_run.specs.Writing.{files_of}
use Rattle.stream_run.proofs.Held.{but_none, read_on, written_on}
use Rattle.stream_run.proofs.Went.{went_both, went_read, unread, unwritten, still_writable}
use Rattle.stream_run.proofs.Reached.{reached_none, reached_more, ends_all, ends_early, halts_reading, halts_writing}
use Rattle.stream_run.proofs.running.handle_all.Goals as goal

pub packets-init : goal.packets-init
packets-init g c =
    let told = g.F.Files.told in
    record {
      reached = λ card format heads. reached_none (function_of c.args.func.now) card format (length c.args.func.now.handlers) c.args.feed.now (told c.args.files.now) c.args.sinks.now c.args.tables.now.state c.requires.opens c.requires.new heads;
      captures = c.requires.captures.reads.files;
      six = c.requires.captures.six;
      most = refl;
      within = omega (arith, c.requires.new);
      same = refl;
      same_files = refl;
      kept = but_none (files_of c.args.sinks.now) (told c.args.files.now);
      count = refl;
    }

pub returns-in-Ok-End-clause-comes : goal.returns-in-Ok-End-clause-comes
returns-in-Ok-End-clause-comes g c = λ card format heads.
    let told = g.F.Files.told in
    let ok = c.in-Ok-End.ensures in
    ends_all (function_of c.args.func.now) card format (length c.args.func.now.handlers) c.args.feed.now (told c.args.files.now) c.packets.feed c.advance.new.self (told c.packets.files) (told c.advance.new.files) c.packets.sinks c.packets.tables.state (c.packets.invariant.reached card format heads)
    (rw c.in-Ok-End.field-0-is at ok.feeds) (rw c.in-Ok-End.field-0-is at ok.counts) c.advance.ensures.kept.givens (c.advance.ensures.same.files ∙ c.packets.invariant.captures ∙ sym c.requires.captures.reads.files) (c.advance.ensures.same.six ∙ c.packets.invariant.six ∙ sym c.requires.captures.six) (c.advance.ensures.same.most ∙ c.packets.invariant.most) (omega (arith, c.packets.invariant.within, c.packets.invariant.most))

pub returns-in-Ok-TooMany-clause-comes : goal.returns-in-Ok-TooMany-clause-comes
returns-in-Ok-TooMany-clause-comes g c = λ card format heads.
    let told = g.F.Files.told in
    let ok = c.in-Ok-TooMany.ensures in
    let counts = rw c.in-Ok-TooMany.field-0-is at ok.counts in
    ends_early (function_of c.args.func.now) card format (length c.args.func.now.handlers) c.args.feed.now (told c.args.files.now) c.packets.feed c.advance.new.self (told c.packets.files) (told c.advance.new.files) c.packets.sinks c.packets.tables.state (c.packets.invariant.reached card format heads)
    (rw c.in-Ok-TooMany.field-0-is at ok.feeds) counts.0 counts.1 c.advance.ensures.same.most c.advance.ensures.kept.givens (c.advance.ensures.same.files ∙ c.packets.invariant.captures ∙ sym c.requires.captures.reads.files) (c.advance.ensures.same.six ∙ c.packets.invariant.six ∙ sym c.requires.captures.six) (c.advance.ensures.same.most ∙ c.packets.invariant.most)

pub handle_one-requires-clause-served : goal.handle_one-requires-clause-served
handle_one-requires-clause-served g c =
    let counts = rw c.in-Ok-Packet.field-0-is at c.in-Ok-Packet.ensures.counts in
    shown_served c.args.func.now (last_packet c.advance.new.self) c.advance.new.self counts.2
    (c.advance.ensures.same.six ∙ c.packets.invariant.six) (ap (λ (t : List ℕ). length t) (c.advance.ensures.same.files ∙ c.packets.invariant.captures) ∙ c.requires.captures.ports)

pub packets-preserved : goal.packets-preserved
packets-preserved g c =
    let told = g.F.Files.told in
    let inv = c.packets.invariant in
    let ok = c.in-Ok-Packet.ensures in
    let counts = rw c.in-Ok-Packet.field-0-is at ok.counts in
    record {
      reached = λ card format heads. reached_more (function_of c.args.func.now) card format (length c.args.func.now.handlers) c.args.feed.now (told c.args.files.now) c.packets.feed c.advance.new.self (told c.packets.files) (told c.advance.new.files) (told c.handle_one.new.files) c.packets.sinks c.handle_one.new.sinks c.packets.tables.state c.handle_one.new.tables.state
          (last_packet c.advance.new.self) (original_of c.advance.new.self) (frame_of c.advance.new.self) (inv.reached card format heads)
          (rw c.in-Ok-Packet.field-0-is at ok.feeds) refl refl counts.0 c.advance.ensures.kept.givens c.handle_one.ensures.wrote.kept.rests c.in-Ok.ensures.handles;
      captures = c.advance.ensures.same.files ∙ inv.captures;
      six = c.advance.ensures.same.six ∙ inv.six;
      most = c.advance.ensures.same.most ∙ inv.most;
      within = omega (arith, counts.0, counts.1, c.advance.ensures.same.most);
      same = c.handle_one.ensures.same ∙ inv.same;
      same_files = c.handle_one.ensures.same_files ∙ inv.same_files;
      kept = written_on (files_of c.args.sinks.now) (files_of c.packets.sinks) (files_in c.packets.feed.sources) (told c.args.files.now) (told c.packets.files) (told c.advance.new.files) (told c.handle_one.new.files) inv.same_files inv.kept c.advance.ensures.kept c.handle_one.ensures.wrote.kept;
      count = c.in-Ok.ensures.wrote.cause ∙ ok.cause ∙ inv.count;
    }

pub returns-in-Err-handle_one-clause-comes : goal.returns-in-Err-handle_one-clause-comes
returns-in-Err-handle_one-clause-comes g c = λ card format heads.
    let told = g.F.Files.told in
    let inv = c.packets.invariant in
    let ok = c.in-Ok-Packet.ensures in
    let counts = rw c.in-Ok-Packet.field-0-is at ok.counts in
    halts_writing (function_of c.args.func.now) card format (length c.args.func.now.handlers) c.args.feed.now (told c.args.files.now) c.packets.feed c.advance.new.self (told c.packets.files) (told c.advance.new.files) (told c.handle_one.new.files) c.packets.sinks c.handle_one.new.sinks c.packets.tables.state c.handle_one.new.tables.state
    (last_packet c.advance.new.self) (original_of c.advance.new.self) (frame_of c.advance.new.self) c.in-Err-handle_one.stop (inv.reached card format heads)
    (rw c.in-Ok-Packet.field-0-is at ok.feeds) refl refl (c.advance.ensures.same.files ∙ inv.captures ∙ sym c.requires.captures.reads.files) (c.advance.ensures.same.six ∙ inv.six ∙ sym c.requires.captures.six) (omega (arith, counts.1, inv.most)) c.advance.ensures.kept.givens c.in-Err-handle_one.ensures.handles

pub returns-in-Err-clause-comes : goal.returns-in-Err-clause-comes
returns-in-Err-clause-comes g c = λ card format heads.
    let told = g.F.Files.told in
    let inv = c.packets.invariant in
    halts_reading (function_of c.args.func.now) card format (length c.args.func.now.handlers) c.args.feed.now (told c.args.files.now) c.packets.feed (told c.packets.files) (told c.advance.new.files) c.packets.sinks c.packets.tables.state (inv.reached card format heads)
    (inv.captures ∙ sym c.requires.captures.reads.files) (inv.six ∙ sym c.requires.captures.six) (omega (arith, inv.within, inv.most)) c.advance.ensures.kept.givens

pub returns-in-Ok-End-clause-went : goal.returns-in-Ok-End-clause-went
returns-in-Ok-End-clause-went g c =
    let told = g.F.Files.told in
    record {
      kept = read_on (files_of c.args.sinks.now) (files_in c.packets.feed.sources) (told c.args.files.now) (told c.packets.files) (told c.advance.new.files) c.packets.invariant.kept c.advance.ensures.kept;
      cause = c.in-Ok-End.ensures.cause ∙ c.packets.invariant.count;
      among = tt;
    }

pub returns-in-Ok-TooMany-clause-went : goal.returns-in-Ok-TooMany-clause-went
returns-in-Ok-TooMany-clause-went g c =
    let told = g.F.Files.told in
    record {
      kept = read_on (files_of c.args.sinks.now) (files_in c.packets.feed.sources) (told c.args.files.now) (told c.packets.files) (told c.advance.new.files) c.packets.invariant.kept c.advance.ensures.kept;
      cause = c.in-Ok-TooMany.ensures.cause ∙ c.packets.invariant.count;
      among = tt;
    }

pub returns-in-Err-clause-went : goal.returns-in-Err-clause-went
returns-in-Err-clause-went g c =
    let told = g.F.Files.told in
    let inv = c.packets.invariant in
    let files = files_of c.args.sinks.now in
    let here = unread Moved c.args.captures.now files (files_in c.packets.feed.sources) (told c.packets.files) (told c.advance.new.files) _ _ c.in-Err.fault c.stop_in.result inv.captures c.stop_in.ensures c.advance.ensures.kept c.in-Err.ensures.cause in
    went_both c.args.captures.now files _ _ _ _ _ _ (tt {0}) _ (record { kept = inv.kept; cause = inv.count; among = tt }) here

pub returns-in-Err-handle_one-clause-went : goal.returns-in-Err-handle_one-clause-went
returns-in-Err-handle_one-clause-went g c =
    let told = g.F.Files.told in
    let inv = c.packets.invariant in
    let captures = c.args.captures.now in
    let files = files_of c.args.sinks.now in
    let ok = c.in-Ok-Packet.ensures in
    let wrote = c.in-Err-handle_one.ensures.wrote in
    let read = went_read captures files (files_in c.packets.feed.sources) (told c.packets.files) (told c.advance.new.files) _ _ (tt {0}) c.advance.ensures.kept ok.cause in
    let stopped = unwritten (Unit {0}) captures files (files_of c.packets.sinks) _ _ _ _ c.in-Err-handle_one.stop inv.same_files wrote.kept wrote.cause wrote.among in
    went_both captures files _ _ _ _ _ _ (tt {0}) _ (went_both captures files _ _ _ _ _ _ (tt {0}) (Ok (tt {0})) (record { kept = inv.kept; cause = inv.count; among = tt }) read) stopped

pub handle_one-requires-clause-writable : goal.handle_one-requires-clause-writable
handle_one-requires-clause-writable g c =
    let told = g.F.Files.told in
    let inv = c.packets.invariant in
    still_writable (files_of c.args.sinks.now) (files_of c.packets.sinks) (told c.args.files.now) (told c.advance.new.files) (read_on (files_of c.args.sinks.now) (files_in c.packets.feed.sources) (told c.args.files.now) (told c.packets.files) (told c.advance.new.files) inv.kept c.advance.ensures.kept) inv.same_files c.requires.writable
