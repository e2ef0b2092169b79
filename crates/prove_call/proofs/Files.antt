-- What a certificate's file holds, step by step.
use Rattle.std.proofs.Common.{◌≡◌, ℕ, ◌≤◌, List, ◌++◌, take, drop, Option, Some, None, sym, ap, subst, ◌∙◌, arith}
use Rattle.std.proofs.lemmas.List.{take-append-drop}
use Rattle.nf_files.specs.Told.{Told, IsToldAs, IsEmptyIfTold}
use Rattle.nf_files.specs.Pieces.{Gains}
use Rattle.nf_files.specs.Openings.{Creates}
use Rattle.nf_files.specs.Writes.{Writes, WritesFront}
use Rattle.stream_run.specs.Writing.{IsFrontIfTold}
use Rattle.call_base.proofs.Creating.{named_other, standing_new}
use Rattle.prove_call.specs.Written.{IsMade, HoldsWhole, HoldsFront}

-- ---- what it was given

gained_whole : (piece : List ℕ) (old new : Option (List ℕ)) → IsEmptyIfTold old → Gains piece old new → IsToldAs piece new
gained_whole piece None None empty gained = tt
gained_whole piece None (Some new) empty gained = absurd gained
gained_whole piece (Some old) None empty gained = absurd gained
gained_whole piece (Some old) (Some new) empty gained = gained ∙ ap (λ (r : List ℕ). r ++ piece) empty

gained_front : (piece later bytes : List ℕ) (old new : Option (List ℕ)) → piece ++ later ≡ bytes → IsEmptyIfTold old → Gains piece old new → IsFrontIfTold bytes new
gained_front piece later bytes None None all empty gained = tt
gained_front piece later bytes None (Some new) all empty gained = absurd gained
gained_front piece later bytes (Some old) None all empty gained = absurd gained
gained_front piece later bytes (Some old) (Some new) all empty gained = record {
  later = later;
  all = ap (λ (r : List ℕ). r ++ later) (gained ∙ ap (λ (r : List ℕ). r ++ piece) empty) ∙ all;
}

-- ---- what stands under its name

made_new : (a b : Told) (name : List ℕ) (file : ℕ) → Creates a b name file → IsMade a b name file
made_new a b name file h = record {
  named = h.named;
  standing = standing_new a b name file h;
  others = λ n other. h.contents n (λ e. other (sym e));
}

made_written : (a b c : Told) (name piece : List ℕ) (file : ℕ) → IsMade a b name file → Writes b c file piece → IsMade a c name file
made_written a b c name piece file made h = record {
  named = subst (λ o. IsToldAs name o) (sym (h.names file)) made.named;
  standing = λ latest e.
      let was = made.standing latest (sym (h.latest_same name) ∙ e) in
      let last : b.latest name ≡ Some file = sym (h.latest_same name) ∙ e ∙ ap Some was.0 in
      let now = h.current name (record { last = last; follows = was.1 }) in
      (was.0, now.follows);
  others = λ n other. h.contents n (named_other name n (b.name file) made.named other) ∙ made.others n other;
}

made_printed : (a b c : Told) (name piece : List ℕ) (file : ℕ) → 2 ≤ file → b.name 0 ≡ None → IsMade a b name file → Writes b c 0 piece → IsMade a c name file
made_printed a b c name piece file two unnamed made h = record {
  named = subst (λ o. IsToldAs name o) (sym (h.names file)) made.named;
  standing = λ latest e.
      let was = made.standing latest (sym (h.latest_same name) ∙ e) in
      (was.0, h.contents name (λ q. cc (unnamed, q)) ∙ was.1 ∙ sym (h.givens file (λ q. omega (arith, q, two))));
  others = λ n other. h.contents n (λ q. cc (unnamed, q)) ∙ made.others n other;
}

made_from : (a b c : Told) (name : List ℕ) (file : ℕ) → ((n : List ℕ) → b.content n ≡ a.content n) → IsMade b c name file → IsMade a c name file
made_from a b c name file same made = record {
  named = made.named;
  standing = made.standing;
  others = λ n other. made.others n other ∙ same n;
}

-- ---- both

pub holds_written : (a b c : Told) (name piece : List ℕ) (file : ℕ) → Creates a b name file → Writes b c file piece → HoldsWhole a c name file piece
holds_written a b c name piece file created h = record {
  made = made_written a b c name piece file (made_new a b name file created) h;
  whole = gained_whole piece (b.given file) (c.given file) created.empty h.gained;
}

pub holds_front : (a b c : Told) (name piece : List ℕ) (file : ℕ) → Creates a b name file → WritesFront b c file piece → HoldsFront a c name file piece
holds_front a b c name piece file created h = record {
  made = made_written a b c name (take h.count piece) file (made_new a b name file created) h.wrote;
  front = gained_front (take h.count piece) (drop h.count piece) piece (b.given file) (c.given file)
      (take-append-drop h.count piece) created.empty h.wrote.gained;
}

pub holds_printed : (a b c : Told) (name bytes piece : List ℕ) (file : ℕ) → 2 ≤ file → b.name 0 ≡ None → HoldsWhole a b name file bytes → Writes b c 0 piece → HoldsWhole a c name file bytes
holds_printed a b c name bytes piece file two unnamed holds h = record {
  made = made_printed a b c name piece file two unnamed holds.made h;
  whole = subst (λ o. IsToldAs bytes o) (sym (h.givens file (λ q. omega (arith, q, two)))) holds.whole;
}

pub whole_from : (a b c : Told) (name bytes : List ℕ) (file number : ℕ) → ((n : List ℕ) → b.content n ≡ a.content n) → file ≡ number → HoldsWhole b c name file bytes → HoldsWhole a c name number bytes
whole_from a b c name bytes file number same at holds =
    subst (λ (n : ℕ). HoldsWhole a c name n bytes) at (record { made = made_from a b c name file same holds.made; whole = holds.whole })

pub front_from : (a b c : Told) (name bytes : List ℕ) (file number : ℕ) → ((n : List ℕ) → b.content n ≡ a.content n) → file ≡ number → HoldsFront b c name file bytes → HoldsFront a c name number bytes
front_from a b c name bytes file number same at holds =
    subst (λ (n : ℕ). HoldsFront a c name n bytes) at (record { made = made_from a b c name file same holds.made; front = holds.front })
