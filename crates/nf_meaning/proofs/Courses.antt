-- How a block goes on, statement by statement.
use Rattle.std.proofs.Common.{◌≡◌, ◌∙◌, ℕ, Bool, ◌||◌, List, [], length, drop, true, false, Some, None, refl, ap, sym}
use Rattle.nf_base.specs.Context as meant
use Rattle.nf_base.specs.Course.{Completion, NoStep, StoppedAt, and_then, exec, events, if_hit, if_new}
use Rattle.nf_base.specs.Events.{Event}
use Rattle.nf_base.specs.Operations.{never, after, answer, new_result, with_new, NewResult, Made, Taken, Full}
use Rattle.nf_base.specs.Record.{answers_full, is_full_answer}
use Rattle.nf_base.specs.Text.{Block, Operation, Question, Creation, Do, Ask, Make}
use Rattle.nf_meaning.specs.declared.context.Context.{Context}
use Rattle.nf_meaning.specs.declared.context.Input.{Input}
use Rattle.nf_meaning.specs.declared.context.Flow.TheVariants.{Falls}
use Rattle.nf_meaning.specs.View.{context_of, input_of}
use Rattle.nf_meaning.specs.Choices.{MayBe, context_by}
use Rattle.nf_meaning.specs.Course.{Makes, GoesOn, Enters, Refuses, Goes}
use Rattle.nf_meaning.specs.declared.creation.NewResult.TheVariants as result
use Rattle.nf_meaning.proofs.Fronts.{given_any}
use Rattle.nf_meaning.proofs.Refusals.{did_is, asked_is, new_is}

-- over an operation
pub over_operation : (p : Input) (b next : Block) (old mid new : Context) (op : Operation) → GoesOn p b (Do op next) old mid → ((left : List ℕ) → context_of left new ≡ after (input_of p) (context_of left mid) op) → new.picks ≡ mid.picks → new.full ≡ mid.full → GoesOn p b next old new
over_operation p b next old mid new op on done picks full = record {
  may = λ all may. on.may all (rw picks at may);
  goes = λ all may. on.goes all (rw picks at may) ∙ ap (exec never (input_of p) next) (sym (same all));
  tells = λ all k may.
      on.tells all k (rw picks at may)
      ∙ ap (λ told. mid.full || told) (did_is (input_of p) (context_by all mid) op _)
      ∙ rw full (ap (λ c. mid.full || answers_full (events never (input_of p) next c k)) (sym (same all)));
}
  where
    same : (all : List ℕ) → context_by all new ≡ after (input_of p) (context_by all mid) op
    same all = rw picks (done (drop (length mid.picks) all))

-- over a statement, one of whose blocks fell off its end
pub over_statement : (p : Input) (b inner next : Block) (statement : Block → Block) (old mid start new : Context) → GoesOn p b (statement next) old mid → Enters p statement inner mid start → Goes p inner start Falls new → GoesOn p b next old new
over_statement p b inner next statement old mid start new on into went = record {
  may = λ all may. on.may all (into.may all (went.may all may));
  goes = λ all may.
      on.goes all (into.may all (went.may all may))
      ∙ into.goes all next (went.may all may)
      ∙ ap (λ (done : Completion). and_then done (exec never (input_of p) next)) (went.goes all may);
  tells = λ all k may.
      on.tells all k (into.may all (went.may all may))
      ∙ into.tells all next k (went.may all may)
      ∙ went.tells all (λ c. events never (input_of p) next c k) may;
}

-- into the block of a question
pub hit_into : (p : Input) (q : Question) (hit miss : Block) (old new : Context) → ((left : List ℕ) → answer (input_of p) (context_of left old) q ≡ Some (context_of left new)) → new.picks ≡ old.picks → new.full ≡ old.full → Enters p (Ask q hit miss) hit old new
hit_into p q hit miss old new answers picks full = record {
  may = λ all may. rw picks at may;
  goes = λ all next may.
      ap (λ o. and_then (if_hit o (exec never (input_of p) hit) (exec never (input_of p) miss (context_by all old))) (exec never (input_of p) next)) (hits all);
  tells = λ all next k may.
      ap (λ told. old.full || told) (asked_is (input_of p) (context_by all old) q _)
      ∙ rw full (ap (λ o. old.full || answers_full (if_hit o (λ d. events never (input_of p) hit d (λ c. events never (input_of p) next c k)) (events never (input_of p) miss (context_by all old) (λ c. events never (input_of p) next c k)))) (hits all));
}
  where
    hits : (all : List ℕ) → answer (input_of p) (context_by all old) q ≡ Some (context_by all new)
    hits all = rw picks (answers (drop (length old.picks) all))

pub miss_into : (p : Input) (q : Question) (hit miss : Block) (old new : Context) → new ≡ old → ((left : List ℕ) → answer (input_of p) (context_of left old) q ≡ None) → Enters p (Ask q hit miss) miss old new
miss_into p q hit miss old new same answers = rw same (record {
  may = λ all may. may;
  goes = λ all next may.
      ap (λ o. and_then (if_hit o (exec never (input_of p) hit) (exec never (input_of p) miss (context_by all old))) (exec never (input_of p) next)) (answers (drop (length old.picks) all));
  tells = λ all next k may.
      ap (λ told. old.full || told) (asked_is (input_of p) (context_by all old) q _)
      ∙ ap (λ o. old.full || answers_full (if_hit o (λ d. events never (input_of p) hit d (λ c. events never (input_of p) next c k)) (events never (input_of p) miss (context_by all old) (λ c. events never (input_of p) next c k)))) (answers (drop (length old.picks) all));
})

-- into the block of a `new`, by what it comes to
into_new : (p : Input) (n : Creation) (made taken full inner : Block) (old new : Context) (to : NewResult) → ((all : List ℕ) → MayBe p.choices new.picks all → MayBe p.choices old.picks all × (new_result never (input_of p) (context_by all old) n ≡ to)) →
    ((all : List ℕ) (A : Type 0) (go : Block → meant.Context → A) (illegal stopped : A) → MayBe p.choices new.picks all → if_new to (λ i. go made (with_new (input_of p) (context_by all old) n i)) (go taken (context_by all old)) (go full (context_by all old)) illegal stopped ≡ go inner (context_by all new)) →
    ((told : Bool) → (old.full || (is_full_answer to || told)) ≡ (new.full || told)) → Enters p (Make n made taken full) inner old new
into_new p n made taken full inner old new to comes goes_ full_ = record {
  may = λ all may. (comes all may).0;
  goes = λ all next may.
      ap (λ r. and_then (if_new r (λ i. exec never (input_of p) made (with_new (input_of p) (context_by all old) n i)) (exec never (input_of p) taken (context_by all old)) (exec never (input_of p) full (context_by all old)) NoStep (StoppedAt n.chain (context_by all old).left)) (exec never (input_of p) next)) (comes all may).1
      ∙ ap (λ done. and_then done (exec never (input_of p) next)) (goes_ all Completion (exec never (input_of p)) NoStep (StoppedAt n.chain (context_by all old).left) may);
  tells = λ all next k may.
      let go : Block → meant.Context → List Event = λ b d. events never (input_of p) b d (λ c. events never (input_of p) next c k) in
      let told : NewResult → List Event = λ r. if_new r (λ i. go made (with_new (input_of p) (context_by all old) n i)) (go taken (context_by all old)) (go full (context_by all old)) [] [] in
      ap (λ t. old.full || t) (new_is (input_of p) (context_by all old) n (told (new_result never (input_of p) (context_by all old) n)))
      ∙ ap (λ r. old.full || (is_full_answer r || answers_full (told r))) (comes all may).1
      ∙ full_ (answers_full (told to))
      ∙ ap (λ es. new.full || answers_full es) (goes_ all (List Event) go [] [] may);
}

pub made_into : (p : Input) (n : Creation) (made taken full : Block) (old new : Context) (i : ℕ) → Makes (result.Made i) p.choices old new (λ c. new_result never (input_of p) c n) (λ c. with_new (input_of p) c n) → Enters p (Make n made taken full) made old new
made_into p n made taken full old new i makes =
    into_new p n made taken full made old new (Made i) (λ all may. let m = makes.2 all may in (m.0, m.1))
    (λ all A go illegal stopped may. ap (go made) (makes.2 all may).2) (λ told. rw makes.1 refl)

pub taken_into : (p : Input) (n : Creation) (made taken full : Block) (old new : Context) → Makes result.Taken p.choices old new (λ c. new_result never (input_of p) c n) (λ c. with_new (input_of p) c n) → Enters p (Make n made taken full) taken old new
taken_into p n made taken full old new makes = rw makes.0
    (into_new p n made taken full taken old old Taken (λ all may. (may, makes.1 (drop (length old.picks) all)))
    (λ all A go illegal stopped may. refl) (λ told. refl))

pub full_into : (p : Input) (n : Creation) (made taken full : Block) (old new : Context) → Makes result.Full p.choices old new (λ c. new_result never (input_of p) c n) (λ c. with_new (input_of p) c n) → Enters p (Make n made taken full) full old new
full_into p n made taken full old new makes = rw makes.0
    (into_new p n made taken full full old (record old { full = true }) Full (λ all may. (may, makes.1 (drop (length old.picks) all)))
    (λ all A go illegal stopped may. refl) (λ told. either old.full))
  where
    either : (b : Bool) → (b || true) ≡ true
    either true = refl
    either false = refl

-- no step, where a statement has none
pub refused_at : (p : Input) (b statement : Block) (old mid new : Context) → GoesOn p b statement old mid → Refuses p statement mid new → Refuses p b old new
refused_at p b statement old mid new on refuses = record {
  given = refuses.given;
  none = λ all may. on.goes all (given_any p.choices new.picks mid.picks all refuses.given may) ∙ refuses.none all may;
}
