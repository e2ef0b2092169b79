use Rattle.std.proofs.Common.{◌≡◌, ◌∙◌, ◌+◌, ℕ, List, Err, map, string_bytes, refl, sym, subst, arith}
use Rattle.std.proofs.lemmas.List.{length-map}
use Rattle.std.proofs.lemmas.Option.{slice_get_within}
use Rattle.nf_base.specs.Functions.{function_of}
use Rattle.call_base.specs.declared.status.Halt.{Halt}
use Rattle.call_base.specs.Opened.{StopsFrom}
use Rattle.call_base.specs.Outside.{seen}
use Rattle.call_base.specs.Reading.{Reads, ReadsTo}
use Rattle.call_base.proofs.Reading.{has_opened, is_unopened}
use Rattle.call_base.proofs.inputs.open_inputs.Goals as goal

pub start_feed-requires-clause-from : goal.start_feed-requires-clause-from
start_feed-requires-clause-from g c = λ i f e.
    (omega (arith, c.in-Ok.ensures.opened.numbers i f e, c.requires.last), omega (arith, slice_get_within c.in-Ok.captures.items i f e, c.in-Ok.ensures.all, c.requires.all))

pub returns-in-Ok-clause-reads : goal.returns-in-Ok-clause-reads
returns-in-Ok-clause-reads g c = λ text before first only.
    let names = map string_bytes c.args.names.now in
    let reads : Reads = record { text = text; captures = names; most = c.args.most } in
    let a = seen (g.F.Files.told c.args.files.now) (g.F.Files.counted c.args.files.now) in
    let b = seen (g.F.Files.told c.open_captures.new.files) (g.F.Files.counted c.open_captures.new.files) in
    let count = length-map c.args.names.now string_bytes in
    c.start_feed.ensures.reads reads before refl (omega (arith, first, c.requires.from_two))
    (has_opened reads before a b c.in-Ok.captures.items (omega (arith, c.requires.last, first)) only c.in-Ok.ensures.opened (c.in-Ok.ensures.all ∙ sym count) c.open_captures.ensures.untouched c.in-Ok.ensures.cause)

pub returns-in-Err-clause-reads : goal.returns-in-Err-clause-reads
returns-in-Err-clause-reads g c = λ text before first only.
    let names = map string_bytes c.args.names.now in
    let reads : Reads = record { text = text; captures = names; most = c.args.most } in
    let a = seen (g.F.Files.told c.args.files.now) (g.F.Files.counted c.args.files.now) in
    let b = seen (g.F.Files.told c.open_captures.new.files) (g.F.Files.counted c.open_captures.new.files) in
    let count = length-map c.args.names.now string_bytes ∙ c.requires.all in
    let from = subst (λ (n : ℕ). StopsFrom (c.args.layout.first + 1) n c.in-Err.stop) c.requires.all c.in-Err.ensures.from in
    subst (λ (h : Halt). ReadsTo reads (function_of c.args.func.now) before b (Err h)) (sym c.halt.ensures)
    (is_unopened reads before a b c.args.layout c.in-Err.stop c.requires.from_two first count only c.open_captures.ensures.untouched from c.in-Err.ensures.here c.in-Err.ensures.cause)
