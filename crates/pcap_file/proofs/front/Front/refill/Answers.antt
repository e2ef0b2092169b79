use Rattle.std.proofs.Common.{◌≡◌, ◌≤◌, ◌-◌, ◌++◌, ◌∙◌, ℕ, List, ap, subst, take, drop, slice_range, rules, arith}
use Rattle.std.proofs.lemmas.List.{with_items_is, places, length-take}
use Rattle.nf_files.specs.Pieces.{Takes}
use Rattle.nf_files.specs.Reads.{Keeps}
use Rattle.pcap_file.specs.Held.{Held}
use Rattle.pcap_file.proofs.Growing.{grows_once, longer_front}
use Rattle.pcap_file.proofs.front.Front.refill.Goals as goal

pub returns-clause-grows : goal.returns-clause-grows
returns-clause-grows g c =
    let told = g.F.Files.told in
    let i = c.self.inside in
    let n = c.in_ok-count.count in
    let bytes = c.read_into.new.bytes in
    let more = take n (slice_range bytes i.count c.args.wanted) in
    let read = c.in_ok-count.ensures.ok in
    let file = ap (λ (h : Held). h.file) c.self.view_is in
    let held = ap (λ (h : Held). h.bytes) c.self.view_is in
    let le : n ≤ c.args.wanted - i.count = omega (arith, read.within, length-take (c.args.wanted - i.count) (drop i.count bytes)) in
    let front : take i.count bytes ≡ take i.count i.room.items = c.read_into.ensures.front ∙ ap (take i.count) c.as_mut_slice.ensures.value in
    rw (with_items_is i.room bytes (search (rules, places)))
    (grows_once c.args.self.now _ more (told c.args.files.now) (told c.read_into.new.files) file
    (longer_front i.room.items bytes i.count c.args.wanted n le front ∙ ap (λ (xs : List ℕ). xs ++ more) held)
    (subst (λ (f : ℕ). Takes more ((told c.args.files.now).rest f) ((told c.read_into.new.files).rest f)) file read.taken)
    (subst (λ (f : ℕ). Keeps (told c.args.files.now) (told c.read_into.new.files) f) file read.kept))
