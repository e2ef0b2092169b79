-- What a record says of its `new`s.
use Rattle.std.proofs.Common.{◌≡◌, Bool, true, false, List, [], ◌∷◌, Contains, Option, Some, None, if◌then◌else◌, refl, ap, sym, ◌∙◌, inl, inr}
use Rattle.std.proofs.lemmas.Option.{same_Some}
use Rattle.nf_base.specs.Operations.{NewResult, Made, Taken, Full, Illegal, Stopped}
use Rattle.nf_base.specs.Events.{Event, Tested, LookedUp, Found, AskedNew, EntryUsed, EntryFreed, CellRead, CellWritten}
use Rattle.nf_base.specs.Record.{result_of_new, is_answer, answers, is_legal, is_refusal, answers_full}
use Rattle.nf_laws.specs.Answers.{IsNew, ResultsAreOfNews, HasNew, LegalRecordsAreAnswered, FullAnswersAreTold}
use Rattle.nf_laws.proofs.Listed.{here, there, has, has_none}
use Rattle.nf_laws.proofs.Written.{any_of, some_of}

result_is : (e : Event) (result : NewResult) → result_of_new e ≡ Some result → IsNew e result
result_is (AskedNew place chain labels r) result q = record { place = place; chain = chain; labels = labels; is = ap (AskedNew place chain labels) (same_Some _ _ q) }
result_is (Tested place holds) result q = cc
result_is (LookedUp place chain m key hit) result q = cc
result_is (Found place chain hit) result q = cc
result_is (EntryUsed chain i changed) result q = cc
result_is (EntryFreed chain i) result q = cc
result_is (CellRead place array i) result q = cc
result_is (CellWritten place array i changed) result q = cc

is_result : (e : Event) (result : NewResult) → IsNew e result → result_of_new e ≡ Some result
is_result e result w = ap result_of_new w.is

pub results_of_news : ResultsAreOfNews
results_of_news e result = (result_is e result, is_result e result)

-- legal
if_answers : (b x : Bool) → (if b then x else false) ≡ true → (b ≡ true) × (x ≡ true)
if_answers true x e = (refl, e)
if_answers false x e = cc

answers_if : (b x : Bool) → b ≡ true → x ≡ true → (if b then x else false) ≡ true
answers_if true x e q = q
answers_if false x e q = cc

each_answers : (es : List Event) (e : Event) → is_legal es ≡ true → Contains es e → answers (result_of_new e) ≡ true
each_answers [] e l h = absurd (has_none e h)
each_answers (x ∷ es) e l h =
    let w = if_answers (answers (result_of_new x)) (is_legal es) l in
    elim (has x es e h) [ inl q ↦ ap (λ (y : Event). answers (result_of_new y)) (sym q) ∙ w.0 | inr i ↦ each_answers es e w.1 i ]

no_such : (es : List Event) (result : NewResult) → is_answer result ≡ false → is_legal es ≡ true → HasNew es result → ⊥
no_such es result bad l h =
    let yes = each_answers es h.event l h.told in
    let not : answers (result_of_new h.event) ≡ false = ap answers (is_result h.event result h.new_) ∙ bad in
    cc

one_answers : (es : List Event) (x : Event) (o : Option NewResult) → result_of_new x ≡ o → Contains es x → (HasNew es Illegal → ⊥) → (HasNew es Stopped → ⊥) → answers o ≡ true
one_answers es x None q h i s = refl
one_answers es x (Some (Made k)) q h i s = refl
one_answers es x (Some Taken) q h i s = refl
one_answers es x (Some Full) q h i s = refl
one_answers es x (Some Illegal) q h i s = absurd (i (record { event = x; told = h; new_ = result_is x Illegal q }))
one_answers es x (Some Stopped) q h i s = absurd (s (record { event = x; told = h; new_ = result_is x Stopped q }))

later : (x : Event) (es : List Event) (result : NewResult) → (HasNew (x ∷ es) result → ⊥) → HasNew es result → ⊥
later x es result h w = h (record { event = w.event; told = there x es w.event w.told; new_ = w.new_ })

all_answer : (es : List Event) → (HasNew es Illegal → ⊥) → (HasNew es Stopped → ⊥) → is_legal es ≡ true
all_answer [] i s = refl
all_answer (x ∷ es) i s =
    answers_if (answers (result_of_new x)) (is_legal es) (one_answers (x ∷ es) x (result_of_new x) refl (here x es) i s) (all_answer es (later x es Illegal i) (later x es Stopped s))

pub legal_answered : LegalRecordsAreAnswered
legal_answered es = (λ l. (no_such es Illegal refl l, no_such es Stopped refl l), λ h. all_answer es h.0 h.1)

-- full
refused : (o : Option NewResult) → is_refusal o ≡ true → o ≡ Some Full
refused None e = cc
refused (Some (Made i)) e = cc
refused (Some Taken) e = cc
refused (Some Full) e = refl
refused (Some Illegal) e = cc
refused (Some Stopped) e = cc

full_told : (es : List Event) → answers_full es ≡ true → HasNew es Full
full_told es e =
    let w = some_of (λ x. is_refusal (result_of_new x)) es e in
    record { event = w.0; told = w.1; new_ = result_is w.0 Full (refused (result_of_new w.0) w.2) }

told_full : (es : List Event) → HasNew es Full → answers_full es ≡ true
told_full es w = any_of (λ x. is_refusal (result_of_new x)) es w.event w.told (ap is_refusal (is_result w.event Full w.new_))

pub full_answers : FullAnswersAreTold
full_answers es = (full_told es, told_full es)
