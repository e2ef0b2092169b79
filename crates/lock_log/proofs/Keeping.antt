-- Calls as they are kept, as there are more.
use Rattle.std.proofs.Common.{◌≡◌, ℕ, ◌+◌, ◌^◌, ◌≤◌, ◌<◌, List, [], ◌∷◌, ◌++◌, length, get_or, map, All, Option, Some, None, slice_get, option_map, refl, ap, sym, ◌∙◌, subst, arith, length-append}
use Rattle.std.specs.List.{AllByRecursion}
use Rattle.std.proofs.lemmas.List.{get_or_append_left, map_push, length_push, length-map}
use Rattle.std.proofs.lemmas.List.Elements.{recursion_from_All, All-weaker, All-push}
use Rattle.std.proofs.lemmas.Option.{slice_get-map, slice_get-get_or, same_Some}
use mathlib.Core.List.{IsPrefix}
use Rattle.nf_base.specs.declared.done.Action.TheVariants.{Skip}
use Rattle.nf_base.specs.declared.done.Done.{Done}
use Rattle.lock_core.specs.declared.call.Call.{Call}
use Rattle.short_answers.specs.declared.answer.Answer.{Answer}
use Rattle.short_answers.specs.declared.answer.Answer.TheVariants.{Plain, Whole}
use Rattle.lock_log.specs.declared.log.Head.{Head}
use Rattle.short_answers.specs.Answers.{plain, answer_in, IsThere}
use Rattle.lock_log.specs.Heads.{head_of}
use Rattle.lock_log.specs.Notes.{Note, call_in, calls_in, IsLog}

-- an answer that is there stays what it is
answer_more : (old more : List Done) (a : Answer) → IsThere (length old) a → answer_in (old ++ more) a ≡ answer_in old a
answer_more old more (Plain action) h = refl
answer_more old more (Whole place) h = get_or_append_left old more (plain Skip) place h

there_more : (m n : ℕ) (a : Answer) → m ≤ n → IsThere m a → IsThere n a
there_more m n (Plain action) le h = tt
there_more m n (Whole place) le h = omega (arith, le, h)

-- so do the calls
calls_more : (old more : List Done) (notes : List Note) → AllByRecursion (λ (n : Note). IsThere (length old) n.answer) notes → calls_in (old ++ more) notes ≡ calls_in old notes
calls_more old more [] h = refl
calls_more old more (n ∷ ns) h =
    ap (λ (d : Done). record { way = n.way; place = n.place; packet = n.packet; done = d } ∷ calls_in (old ++ more) ns) (answer_more old more n.answer h.0)
    ∙ ap (λ (cs : List Call). call_in old n ∷ cs) (calls_more old more ns h.1)

longer : (old new : List Done) → IsPrefix old new → length old ≤ length new
longer old new p = let e = ap length p.1 in let f = length-append old p.0 in omega (arith, e, f)

-- one call more
pub calls_pushed : (old new : List Done) (notes : List Note) (n : Note) → IsPrefix old new → IsLog old notes → calls_in new (notes ++ n ∷ []) ≡ calls_in old notes ++ call_in new n ∷ []
calls_pushed old new notes n p log =
    map_push (call_in new) notes n
    ∙ ap (λ (cs : List Call). cs ++ call_in new n ∷ [])
    (ap (λ (w : List Done). calls_in w notes) (sym p.1) ∙ calls_more old p.0 notes (recursion_from_All (λ (x : Note). IsThere (length old) x.answer) notes log.there))

pub log_pushed : (old new : List Done) (notes : List Note) (n : Note) → IsPrefix old new → IsLog old notes → length new ≤ length old + 1 → length notes < 2 ^ 32 → IsThere (length new) n.answer → IsLog new (notes ++ n ∷ [])
log_pushed old new notes n p log one room here =
    let up = longer old new p in
    let long = length_push notes n in
    let few = log.few in
    let fewer = log.fewer in
    record {
      few = omega (arith, long, room);
      fewer = omega (arith, long, one, fewer);
      there = All-push (λ (x : Note). IsThere (length new) x.answer) notes n
          (All-weaker (λ (x : Note). IsThere (length old) x.answer) (λ (x : Note). IsThere (length new) x.answer) (λ x h. there_more (length old) (length new) x.answer up h) notes log.there)
          here;
    }

-- ---- a call at its place

head_at : (whole : List Done) (notes : List Note) (at : ℕ) (n : Note) → slice_get notes at ≡ Some n → option_map head_of (slice_get (calls_in whole notes) at) ≡ Some (record { way = n.way; place = n.place })
head_at whole notes at n e = ap (option_map head_of) (slice_get-map (call_in whole) notes at ∙ ap (option_map (call_in whole)) e)

-- the note at a place is that of the call there
pub call_at : (whole : List Done) (notes : List Note) (at : ℕ) (n : Note) (c : Call) → slice_get notes at ≡ Some n → slice_get (calls_in whole notes) at ≡ Some c → c ≡ call_in whole n
call_at whole notes at n c e f = sym (same_Some _ _ (sym (slice_get-map (call_in whole) notes at ∙ ap (option_map (call_in whole)) e) ∙ f))

-- the call whose head is told
pub record Headed (o : Option Call) (h : Head) : Type 0 where
  pub call : Call
  pub is : o ≡ Some call
  pub head : head_of call ≡ h

pub call_of_head : (o : Option Call) (h : Head) → Some h ≡ option_map head_of o → Headed o h
call_of_head None h e = absurd (cc e)
call_of_head (Some c) h e = record { call = c; is = refl; head = sym (same_Some _ _ e) }
