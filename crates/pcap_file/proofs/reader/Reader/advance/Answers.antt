use Rattle.std.proofs.Common.{ℕ, ◌≡◌, ◌+◌, ◌∙◌, ◌++◌, List, [], length, Some, None, Ok, cond, subst, sym, ap, arith}
use Rattle.std.proofs.lemmas.Grind.{common_steps}
use Rattle.pcap_file.specs.declared.reader.Next.TheVariants.{Frame, End, Torn}
use Rattle.pcap_file.specs.declared.reader.State.TheVariants.{Going}
use Rattle.pcap_file.specs.Record.{Record}
use Rattle.pcap_file.specs.Capture.{is_whole, record_in}
use Rattle.pcap_file.specs.Held.{to_come}
use Rattle.pcap_file.specs.Reading.{Reading, Steps, left}
use Rattle.pcap_file.proofs.Growing.{at_most_taken, exactly_taken, takes_record}
use Rattle.pcap_file.proofs.Stepping.{frame_steps, torn_steps, end_steps, ends_there, all_held, some_held}
use Rattle.pcap_file.proofs.reader.Reader.advance.Goals as goal

pub overflow_add-self : goal.overflow_add-self
overflow_add-self g c =
    let below = ends_there c.self.inside.form c.self.inside.offset c.as_slice.result.now c.in-Some.record c.in-Some.ensures in
    omega (arith, c.size-size.ensures)

pub returns-in_err-reach-clause-takes : goal.returns-in_err-reach-clause-takes
returns-in_err-reach-clause-takes g c =
    let told = g.F.Files.told in
    let held = c.reach.new.front.bytes in
    let file = ap (λ (r : Reading). r.file) c.self.view_is in
    let same = subst (λ (f : ℕ). to_come held ((told c.reach.new.files).rest f) ≡ to_come [] ((told c.args.files.now).rest f)) file c.reach.ensures.grows.same_bytes in
    takes_record _ _ c.args.frame.now.items c.from_residual.result c.from_residual.ensures.0 (at_most_taken 262160 held _ _ c.reach.ensures.most same)

pub returns-then-is_empty-clause-steps : goal.returns-then-is_empty-clause-steps
returns-then-is_empty-clause-steps g c =
    let told = g.F.Files.told in
    let i = c.self.inside in
    let held = c.reach.new.front.bytes in
    let now : Reading = record { form = i.form; offset = i.offset; file = i.front.file; state = i.state } in
    let going : now.state ≡ Going = ap (λ (r : Reading). r.state) c.self.view_is ∙ c.requires.going in
    let none : held ≡ [] = grind (arith, common_steps) in
    subst (λ (r : Reading). Steps (left r (told c.args.files.now)) (Some (record { form = i.form; records = []; torn = None })) c.args.frame.now.items (Ok End)) c.self.view_is
    (end_steps now c.reach.new.front (told c.args.files.now) (told c.reach.new.files) c.args.frame.now.items going c.reach.ensures.grows c.in_ok-reach.ensures.reached none)

pub returns-else-is_empty-clause-steps : goal.returns-else-is_empty-clause-steps
returns-else-is_empty-clause-steps g c =
    let told = g.F.Files.told in
    let i = c.self.inside in
    let held = c.reach.new.front.bytes in
    let now : Reading = record { form = i.form; offset = i.offset; file = i.front.file; state = i.state } in
    let going : now.state ≡ Going = ap (λ (r : Reading). r.state) c.self.view_is ∙ c.requires.going in
    let there = subst (λ (xs : List ℕ). None ≡ cond (is_whole i.form.order i.offset xs) (Some (record_in i.form.order xs)) None) c.as_slice.ensures c.in-None.ensures in
    subst (λ (r : Reading). Steps (left r (told c.args.files.now)) (Some (record { form = i.form; records = []; torn = Some i.offset })) c.args.frame.now.items (Ok (Torn i.offset))) c.self.view_is
    (torn_steps now c.reach.new.front (told c.args.files.now) (told c.reach.new.files) c.args.frame.now.items going c.reach.ensures.grows c.in_ok-reach.ensures.reached there (some_held held c.if-is_empty.ensures))

pub returns-else-is_empty-clause-takes : goal.returns-else-is_empty-clause-takes
returns-else-is_empty-clause-takes g c =
    let told = g.F.Files.told in
    let held = c.reach.new.front.bytes in
    let file = ap (λ (r : Reading). r.file) c.self.view_is in
    let same = subst (λ (f : ℕ). to_come held ((told c.reach.new.files).rest f) ≡ to_come [] ((told c.args.files.now).rest f)) file c.reach.ensures.grows.same_bytes in
    at_most_taken 262160 held _ _ c.reach.ensures.most same

pub returns-in-Err-clause-takes : goal.returns-in-Err-clause-takes
returns-in-Err-clause-takes g c =
    let told = g.F.Files.told in
    let held = c.reach.new.front.bytes in
    let file = ap (λ (r : Reading). r.file) c.self.view_is in
    let same = subst (λ (f : ℕ). to_come held ((told c.reach.new.files).rest f) ≡ to_come [] ((told c.args.files.now).rest f)) file c.reach.ensures.grows.same_bytes in
    at_most_taken 262160 held _ _ c.reach.ensures.most same

pub returns-in-Ok-clause-takes : goal.returns-in-Ok-clause-takes
returns-in-Ok-clause-takes g c =
    let told = g.F.Files.told in
    let i = c.self.inside in
    let q = c.in-Some.record in
    let held = c.reach.new.front.bytes in
    let file = ap (λ (r : Reading). r.file) c.self.view_is in
    let same = subst (λ (f : ℕ). to_come held ((told c.reach.new.files).rest f) ≡ to_come [] ((told c.args.files.now).rest f)) file c.reach.ensures.grows.same_bytes in
    let there = subst (λ (xs : List ℕ). Some q ≡ cond (is_whole i.form.order i.offset xs) (Some (record_in i.form.order xs)) None) c.as_slice.ensures c.in-Some.ensures in
    let items : c.extend_from_slice.new.self.items ≡ q.frame = c.in-Ok.ensures.items ∙ ap (λ (xs : List ℕ). xs ++ c.record.inside.frame.now) c.clear.ensures.items ∙ ap (λ (r : Record). r.frame) c.record.view_is in
    let all = all_held i.form.order i.offset held q c.size-size.result c.in_ok-reach.ensures.only there c.size-size.ensures in
    exactly_taken (16 + length c.extend_from_slice.new.self.items) held _ _ (all ∙ c.size-size.ensures ∙ ap (λ (xs : List ℕ). 16 + length xs) (sym items)) same

pub returns-in-Ok-clause-steps : goal.returns-in-Ok-clause-steps
returns-in-Ok-clause-steps g c =
    let told = g.F.Files.told in
    let i = c.self.inside in
    let now : Reading = record { form = i.form; offset = i.offset; file = i.front.file; state = i.state } in
    let going : now.state ≡ Going = ap (λ (r : Reading). r.state) c.self.view_is ∙ c.requires.going in
    let q = c.in-Some.record in
    let there = subst (λ (xs : List ℕ). Some q ≡ cond (is_whole i.form.order i.offset xs) (Some (record_in i.form.order xs)) None) c.as_slice.ensures c.in-Some.ensures in
    let items : c.extend_from_slice.new.self.items ≡ q.frame = c.in-Ok.ensures.items ∙ ap (λ (xs : List ℕ). xs ++ c.record.inside.frame.now) c.clear.ensures.items ∙ ap (λ (r : Record). r.frame) c.record.view_is in
    let all = all_held i.form.order i.offset c.reach.new.front.bytes q c.size-size.result c.in_ok-reach.ensures.only there c.size-size.ensures in
    subst (λ (r : Reading). Steps (left r (told c.args.files.now)) (left (record { form = i.form; offset = i.offset + c.size-size.result; file = c.reach.new.front.file; state = i.state }) (told c.reach.new.files)) c.extend_from_slice.new.self.items (Ok (Frame c.head-head.result))) c.self.view_is
    (frame_steps now c.reach.new.front (told c.args.files.now) (told c.reach.new.files) q c.size-size.result c.extend_from_slice.new.self.items c.head-head.result going c.reach.ensures.grows c.in_ok-reach.ensures.reached there all c.size-size.ensures items c.head-head.ensures)
