use Rattle.std.proofs.Common.{◌≡◌, ◌+◌, ◌<◌, inl, inr, ℕ, List, [], ◌∷◌, ◌++◌, map, take, length, length-append, slice_get, get_or, option_map, Some, String, Global, string_bytes, ap, sym, subst, ◌∙◌, arith}
use Rattle.std.proofs.lemmas.Option.{slice_get-map}
use Rattle.nf_files.specs.Causes.{Asked, Counted, asking}
use Rattle.call_base.specs.Names.{reading}
use Rattle.call_base.specs.Numbers.{IsFrontOf}
use Rattle.call_base.specs.Opened.{AreOpened}
use Rattle.call_base.proofs.Got.{got_either, got_item}
use Rattle.call_base.proofs.Asking.{front_more, front_taken, asked_more, asks_next, asks_here}
use Rattle.call_base.proofs.Creating.{opened_more, untouched_both, untouched_opened}
use Rattle.call_base.proofs.opening.open_captures.Goals as goal
use Rattle.nf_files.specs.declared.kind.Kind.TheVariants.{Input}
use Rattle.nf_files.specs.Told.{IsRead}

-- a name of a loop, as it is asked for
read_item : (names : List (String Global)) (i : ℕ) (x : String Global) → i < length names → x ≡ get_or names i x → slice_get (map reading (map string_bytes names)) i ≡ Some (reading (string_bytes x))
read_item names i x lt at = slice_get-map reading (map string_bytes names) i ∙ ap (option_map reading) (got_item string_bytes names i x lt at)

pub loop-name-preserved : goal.loop-name-preserved
loop-name-preserved g c =
    let told = g.F.Files.told in
    let counted = g.F.Files.counted in
    let inv = c.loop-name.invariant in
    let i = c.loop-name.name-index in
    let old = c.loop-name.opened.items in
    let new = c.in-Ok-push.ensures.items in
    let n = string_bytes c.name-item.result in
    let named = got_item string_bytes c.args.names.now i c.name-item.result c.loop-name-test.true c.name-item.is in
    let all = map reading (map string_bytes c.args.names.now) in
    let one : slice_get all i ≡ Some (reading n) = read_item c.args.names.now i c.name-item.result c.loop-name-test.true c.name-item.is in
    record {
      count = ap length new ∙ omega (arith, length-append old (c.in-Ok.file ∷ []), inv.count);
      behind = omega (arith, c.in-Ok.ensures.ok.then, c.in-Ok.ensures.ok.number);
      from = omega (arith, c.in-Ok.ensures.ok.then, inv.from);
      opened = subst (λ (xs : List ℕ). AreOpened (told c.args.files.now) (told c.open_next.new.files) (map string_bytes c.args.names.now) xs) (sym new)
          (opened_more (told c.args.files.now) (told c.loop-name.files) (told c.open_next.new.files) (map string_bytes c.args.names.now) old n c.in-Ok.file inv.opened inv.untouched.contents (ap (slice_get (map string_bytes c.args.names.now)) inv.count ∙ named) c.in-Ok.ensures.ok);
      readable = λ j f got. elim (got_either old c.in-Ok.file j f (ap (λ xs. slice_get xs j) (sym new) ∙ got)) [
        | inl was ↦ c.in-Ok.ensures.ok.kinds f Input (inv.readable j f was)
        | inr last ↦ subst (IsRead (g.F.Files.told c.open_next.new.files)) (sym last.1) c.in-Ok.ensures.ok.read
      ];
      untouched = untouched_both (told c.args.files.now) (told c.loop-name.files) (told c.open_next.new.files) inv.untouched (untouched_opened (told c.loop-name.files) (told c.open_next.new.files) n c.in-Ok.file c.in-Ok.ensures.ok);
      kinds = λ n kind was. c.in-Ok.ensures.ok.kinds n kind (inv.kinds n kind was);
      rests = λ n lt. c.in-Ok.ensures.ok.rests n (λ same. absurd (omega (arith, same, lt, c.in-Ok.ensures.ok.number, inv.from))) ∙ inv.rests n lt;
      asked = asked_more (take i all) (reading n) (counted c.args.files.now) (counted c.loop-name.files) (counted c.open_next.new.files) inv.asked c.in-Ok.ensures.cause
          ∙ ap (λ (t : List Asked). asking t (counted c.args.files.now)) (sym (front_more all i (reading n) one));
    }

pub returns-in-Err-clause-cause : goal.returns-in-Err-clause-cause
returns-in-Err-clause-cause g c =
    let counted = g.F.Files.counted in
    let inv = c.loop-name.invariant in
    let i = c.loop-name.name-index in
    let n = string_bytes c.name-item.result in
    let all = map reading (map string_bytes c.args.names.now) in
    let one : slice_get all i ≡ Some (reading n) = read_item c.args.names.now i c.name-item.result c.loop-name-test.true c.name-item.is in
    asks_next all (take i all) (reading n) (c.loop-name.last + 1) (counted c.args.files.now) (counted c.loop-name.files) (counted c.open_next.new.files) c.in-Err.stop
    (front_taken all i) (subst (IsFrontOf all) (front_more all i (reading n) one) (front_taken all (i + 1))) inv.asked c.in-Err.ensures.cause

pub returns-in-Err-push-clause-cause : goal.returns-in-Err-push-clause-cause
returns-in-Err-push-clause-cause g c =
    let counted = g.F.Files.counted in
    let inv = c.loop-name.invariant in
    let i = c.loop-name.name-index in
    let n = string_bytes c.name-item.result in
    let all = map reading (map string_bytes c.args.names.now) in
    let one : slice_get all i ≡ Some (reading n) = read_item c.args.names.now i c.name-item.result c.loop-name-test.true c.name-item.is in
    asks_here all (take (i + 1) all) (counted c.args.files.now) (counted c.open_next.new.files) (front_taken all (i + 1))
    (asked_more (take i all) (reading n) (counted c.args.files.now) (counted c.loop-name.files) (counted c.open_next.new.files) inv.asked c.in-Ok.ensures.cause
    ∙ ap (λ (t : List Asked). asking t (counted c.args.files.now)) (sym (front_more all i (reading n) one)))

pub returns-in-Err-push-clause-rests : goal.returns-in-Err-push-clause-rests
returns-in-Err-push-clause-rests g c = λ n lt.
    let inv = c.loop-name.invariant in
    c.in-Ok.ensures.ok.rests n (λ same. absurd (omega (arith, same, lt, c.in-Ok.ensures.ok.number, inv.from))) ∙ inv.rests n lt
