-- A map by tokens, and the texts that it numbers.
use Rattle.std.proofs.Common.{◌≡◌, ◌<◌, ◌+◌, arith, ℕ, true, cond, List, [], ◌∷◌, ◌++◌, length, Option, Some, None, Vec, Global, refl, ap, sym, ◌∙◌, inl, inr}
use Rattle.std.specs.Str.{bytes_eq}
use Rattle.std.proofs.lemmas.Slice.Eq.{bytes_eq-Decides}
use Rattle.std.proofs.lemmas.Bool.{cases_Bool, cases_lt}
use Rattle.std.proofs.lemmas.List.{append-nil, length_push, get_or_append_left, get_or_push}
use Rattle.path_walk.specs.Tests.{TestText, test_tokens}
use Rattle.path_walk.specs.Numbering.{no_text, text_at, Finds, IsNumber}
use Rattle.path_walk.proofs.Texts.{one_text}

abbrev pub Find : Type 0
Find = Vec ℕ Global → Option ℕ

text_left : (texts : List TestText) (text : TestText) (n : ℕ) → n < length texts → text_at (texts ++ text ∷ []) n ≡ text_at texts n
text_left texts text n h = get_or_append_left texts (text ∷ []) no_text n h

text_last : (texts : List TestText) (text : TestText) → text_at (texts ++ text ∷ []) (length texts) ≡ text
text_last texts text = get_or_push texts text no_text (length texts) refl

pub found_number : (find : Find) (texts : List TestText) (key : Vec ℕ Global) (text : TestText) (n : ℕ) → Finds find texts → key.items ≡ test_tokens text → find key ≡ Some n → IsNumber texts texts text n
found_number find texts key text n f e h = let w = f.found key n h in record {
  more = [];
  behind = sym (append-nil texts);
  within = w.0;
  at = one_text (text_at texts n) text (w.1 ∙ e);
}

pub added_number : (texts : List TestText) (text : TestText) (n : ℕ) → n ≡ length texts → IsNumber texts (texts ++ text ∷ []) text n
added_number texts text n e = record {
  more = text ∷ [];
  behind = refl;
  within = let h = length_push texts text in omega arith;
  at = ap (text_at (texts ++ text ∷ [])) e ∙ text_last texts text;
}

-- a text that has no number yet is none of those that have
is_other : (find : Find) (texts : List TestText) (key : Vec ℕ Global) (text : TestText) → Finds find texts → key.items ≡ test_tokens text → find key ≡ None → (n : ℕ) → n < length texts → text_at texts n ≡ text → ⊥
is_other find texts key text f e h n w same = let k : find key ≡ Some n = f.kept key n w (e ∙ ap test_tokens (sym same)) in cc

pub added_finds : (find after : Find) (texts : List TestText) (key : Vec ℕ Global) (text : TestText) (n : ℕ) → Finds find texts → key.items ≡ test_tokens text → find key ≡ None → n ≡ length texts →
    ((q : Vec ℕ Global) → after q ≡ cond (bytes_eq key.items q.items) (Some n) (find q)) → Finds after (texts ++ text ∷ [])
added_finds find after texts key text n f e h is put = record { found = found; kept = kept; apart = record { one = one } }
  where
    longer : length (texts ++ text ∷ []) ≡ length texts + 1
    longer = length_push texts text

    found : (q : Vec ℕ Global) (m : ℕ) → after q ≡ Some m → (m < length (texts ++ text ∷ [])) × (test_tokens (text_at (texts ++ text ∷ []) m) ≡ q.items)
    found q m k = elim (cases_Bool (bytes_eq key.items q.items)) [
      | inl t ↦
          let same : key.items ≡ q.items = (bytes_eq-Decides key.items q.items).0 t in
          let u : Some n ≡ Some m = sym (ap (λ b. cond b (Some n) (find q)) t) ∙ sym (put q) ∙ k in
          let v : m ≡ length texts = cc in
          let l = longer in
          let w : m < length (texts ++ text ∷ []) = omega arith in
          (w, ap (λ x. test_tokens (text_at (texts ++ text ∷ []) x)) v ∙ ap test_tokens (text_last texts text) ∙ sym e ∙ same)
      | inr b ↦
          let u : find q ≡ Some m = sym (ap (λ b. cond b (Some n) (find q)) b) ∙ sym (put q) ∙ k in
          let w = f.found q m u in
          let v = w.0 in
          let l = longer in
          let x : m < length (texts ++ text ∷ []) = omega arith in
          (x, ap test_tokens (text_left texts text m w.0) ∙ w.1)
    ]

    kept : (q : Vec ℕ Global) (m : ℕ) → m < length (texts ++ text ∷ []) → q.items ≡ test_tokens (text_at (texts ++ text ∷ []) m) → after q ≡ Some m
    kept q m w k = elim (cases_lt m (length texts)) [
      | inl v ↦
          let same : q.items ≡ test_tokens (text_at texts m) = k ∙ ap test_tokens (text_left texts text m v) in
          elim (cases_Bool (bytes_eq key.items q.items)) [
            | inl t ↦
                let u : key.items ≡ q.items = (bytes_eq-Decides key.items q.items).0 t in
                absurd (is_other find texts key text f e h m v (one_text (text_at texts m) text (sym same ∙ sym u ∙ e)))
            | inr b ↦ put q ∙ ap (λ b. cond b (Some n) (find q)) b ∙ f.kept q m v same
          ]
      | inr v ↦
          let l = longer in
          let x : m ≡ length texts = omega arith in
          let same : q.items ≡ key.items = k ∙ ap (λ y. test_tokens (text_at (texts ++ text ∷ []) y)) x ∙ ap test_tokens (text_last texts text) ∙ sym e in
          let t : bytes_eq key.items q.items ≡ true = (bytes_eq-Decides key.items q.items).1 (sym same) in
          put q ∙ ap (λ b. cond b (Some n) (find q)) t ∙ ap Some (is ∙ sym x)
    ]

    one : (i j : ℕ) → i < length (texts ++ text ∷ []) → j < length (texts ++ text ∷ []) → text_at (texts ++ text ∷ []) i ≡ text_at (texts ++ text ∷ []) j → i ≡ j
    one i j a b k = elim (cases_lt i (length texts)) [
      | inl v ↦ elim (cases_lt j (length texts)) [
        | inl w ↦ f.apart.one i j v w (sym (text_left texts text i v) ∙ k ∙ text_left texts text j w)
        | inr w ↦
            let l = longer in
            let x : j ≡ length texts = omega arith in
            absurd (is_other find texts key text f e h i v (sym (text_left texts text i v) ∙ k ∙ ap (text_at (texts ++ text ∷ [])) x ∙ text_last texts text))
      ]
      | inr v ↦
          let l = longer in
          let x : i ≡ length texts = omega arith in
          elim (cases_lt j (length texts)) [
            | inl w ↦ absurd (is_other find texts key text f e h j w (sym (text_left texts text j w) ∙ sym k ∙ ap (text_at (texts ++ text ∷ [])) x ∙ text_last texts text))
            | inr w ↦ omega arith
          ]
    ]
