use Rattle.std.proofs.Common.{ℕ, ◌≡◌, ◌+◌, ◌∙◌, List, length, take, Some, None, Ok, cond, subst, sym, ap, refl}
use Rattle.nf_files.specs.Pieces.{Takes}
use Rattle.nf_files.specs.Reads.{Keeps}
use Rattle.pcap_file.specs.declared.reader.Next.TheVariants.{Frame}
use Rattle.pcap_file.specs.declared.reader.State.TheVariants.{Going}
use Rattle.pcap_file.specs.Record.{Record}
use Rattle.pcap_file.specs.Capture.{is_whole, record_in}
use Rattle.pcap_file.specs.Held.{Held}
use Rattle.pcap_file.specs.Taken.{AreTaken}
use Rattle.pcap_file.specs.Reading.{Reading, Steps, left}
use Rattle.pcap_file.proofs.Alone.{alone}
use Rattle.pcap_file.proofs.Growing.{grows_once, exactly_taken}
use Rattle.pcap_file.proofs.Stepping.{held_of, frame_steps}
use Rattle.pcap_file.proofs.reader.Reader.take_ready.Goals as goal

pub returns-in-Ok-clause-steps : goal.returns-in-Ok-clause-steps
returns-in-Ok-clause-steps g c =
    let told = g.F.Files.told in
    let i = c.self.inside in
    let file = i.front.file in
    let size = c.size-size.result in
    let q = c.in_ok-record.record in
    let bytes = c.ahead-ready.result.now in
    let now : Reading = record { form = i.form; offset = i.offset; file = file; state = i.state } in
    let going : now.state ≡ Going = ap (λ (r : Reading). r.state) c.self.view_is ∙ c.requires.going in
    let there : Some q ≡ cond (is_whole i.form.order i.offset bytes) (Some (record_in i.form.order bytes)) None = sym c.in_ok-record.was ∙ c.first.ensures in
    let one = alone i.form.order i.offset bytes q size there c.size-size.ensures in
    let same : g.F.Files.ready c.args.files.now file ≡ bytes = sym (c.ahead-ready.ensures.value ∙ ap (g.F.Files.ready c.args.files.now) c.file.ensures) in
    let taken = subst (λ (f : ℕ). Takes (take size (g.F.Files.ready c.args.files.now f)) ((told c.args.files.now).rest f) ((told c.take.new.self).rest f)) c.file-in-Ok.ensures c.take.ensures.taken in
    let these = subst (λ (xs : List ℕ). Takes (take size xs) ((told c.args.files.now).rest file) ((told c.take.new.self).rest file)) same taken in
    let kept = subst (λ (f : ℕ). Keeps (told c.args.files.now) (told c.take.new.self) f) c.file-in-Ok.ensures c.take.ensures.kept in
    let grown : Held = record { file = file; bytes = take size bytes } in
    let grows = grows_once (held_of now) grown (take size bytes) (told c.args.files.now) (told c.take.new.self) refl refl these kept in
    let items : c.replace.new.held.items ≡ q.frame = c.in-Ok.ensures ∙ ap (λ (r : Record). r.frame) c.record.view_is in
    subst (λ (r : Reading). Steps (left r (told c.args.files.now)) (left (record { form = i.form; offset = i.offset + size; file = file; state = i.state }) (told c.take.new.self)) c.replace.new.held.items (Ok (Frame c.head-head.result))) c.self.view_is
    (frame_steps now grown (told c.args.files.now) (told c.take.new.self) q size c.replace.new.held.items c.head-head.result going grows (one.1.reached ((told c.take.new.self).rest file)) one.1.there one.1.long c.size-size.ensures items c.head-head.ensures)

pub returns-in-Ok-clause-takes : goal.returns-in-Ok-clause-takes
returns-in-Ok-clause-takes g c =
    let told = g.F.Files.told in
    let i = c.self.inside in
    let file = i.front.file in
    let size = c.size-size.result in
    let q = c.in_ok-record.record in
    let bytes = c.ahead-ready.result.now in
    let now : Reading = record { form = i.form; offset = i.offset; file = file; state = i.state } in
    let there : Some q ≡ cond (is_whole i.form.order i.offset bytes) (Some (record_in i.form.order bytes)) None = sym c.in_ok-record.was ∙ c.first.ensures in
    let one = alone i.form.order i.offset bytes q size there c.size-size.ensures in
    let same : g.F.Files.ready c.args.files.now file ≡ bytes = sym (c.ahead-ready.ensures.value ∙ ap (g.F.Files.ready c.args.files.now) c.file.ensures) in
    let taken = subst (λ (f : ℕ). Takes (take size (g.F.Files.ready c.args.files.now f)) ((told c.args.files.now).rest f) ((told c.take.new.self).rest f)) c.file-in-Ok.ensures c.take.ensures.taken in
    let these = subst (λ (xs : List ℕ). Takes (take size xs) ((told c.args.files.now).rest file) ((told c.take.new.self).rest file)) same taken in
    let kept = subst (λ (f : ℕ). Keeps (told c.args.files.now) (told c.take.new.self) f) c.file-in-Ok.ensures c.take.ensures.kept in
    let grown : Held = record { file = file; bytes = take size bytes } in
    let grows = grows_once (held_of now) grown (take size bytes) (told c.args.files.now) (told c.take.new.self) refl refl these kept in
    let items : c.replace.new.held.items ≡ q.frame = c.in-Ok.ensures ∙ ap (λ (r : Record). r.frame) c.record.view_is in
    subst (λ (r : Reading). AreTaken (16 + length c.replace.new.held.items) ((told c.args.files.now).rest r.file) ((told c.take.new.self).rest r.file)) c.self.view_is
    (exactly_taken (16 + length c.replace.new.held.items) (take size bytes) ((told c.args.files.now).rest file) ((told c.take.new.self).rest file) (one.1.long ∙ c.size-size.ensures ∙ ap (λ (xs : List ℕ). 16 + length xs) (sym items)) grows.same_bytes)
