-- A function has one verdict.
use Rattle.std.proofs.Common.{◌≡◌, ◌<◌, refl, ℕ, ap, List, length, inl, inr, Some, slice_get, arith}
use Rattle.std.proofs.lemmas.Bool.{cases_lt}
use Rattle.std.proofs.lemmas.Option.{slice_get_within}
use Rattle.nf_base.specs.declared.decl.ObjectId.{ObjectId}
use Rattle.nf_base.specs.declared.keys.Keys.{Keys}
use Rattle.shard_rules.specs.declared.rule.Rule.{Rule}
use Rattle.shard_rules.specs.declared.plan.ObjectVerdict.{ObjectVerdict}
use Rattle.shard_rules.specs.Served.{own_plan}
use Rattle.key_synth.specs.declared.verdict.Cause.{Cause}
use Rattle.key_synth.specs.declared.verdict.Cause.TheVariants as cause
use Rattle.key_synth.specs.declared.verdict.Verdict.TheVariants.{Sharded, Locked}
use Rattle.key_synth.specs.Verdicts.{unkept_rule, AreKeptBefore, IsFirstUnkept, IsCause, VerdictsAreOne}
use Rattle.key_synth.proofs.Tied.{given_keys_one}

-- an object that keeps no label isn't before the first such one
not_before : (standings : List ObjectVerdict) (i n : ℕ) (standing : ObjectVerdict) (rule : Rule) → slice_get standings i ≡ Some standing → unkept_rule standing ≡ Some rule → AreKeptBefore standings n → i < n → ⊥
not_before standings i n standing rule stands unkept kept before = cc (unkept, kept.none i standing before stands)

objects_one : (objects : List ObjectId) (standings : List ObjectVerdict) (object other : ObjectId) (rule another : Rule) → IsFirstUnkept objects standings object rule → IsFirstUnkept objects standings other another
    → cause.Object object rule ≡ cause.Object other another
objects_one objects standings object other rule another first second =
    elim (cases_lt first.i second.i) [
      | inl before ↦ absurd (not_before standings first.i second.i first.standing rule first.stands first.unkept second.first before)
      | inr late ↦
          elim (cases_lt second.i first.i) [
            | inl before ↦ absurd (not_before standings second.i first.i second.standing another second.stands second.unkept first.first before)
            | inr later ↦
                let same : first.i ≡ second.i = omega arith in
                cc (same, first.there, second.there, first.stands, second.stands, first.unkept, second.unkept)
          ]
    ]

not_hash : (objects : List ObjectId) (standings : List ObjectVerdict) (object : ObjectId) (rule : Rule) → IsFirstUnkept objects standings object rule → AreKeptBefore standings (length standings) → ⊥
not_hash objects standings object rule first kept =
    not_before standings first.i (length standings) first.standing rule first.stands first.unkept kept (slice_get_within standings first.i first.standing first.stands)

causes_one : (objects : List ObjectId) (standings : List ObjectVerdict) (why other : Cause) → IsCause objects standings why → IsCause objects standings other → why ≡ other
causes_one objects standings (cause.Object object rule) (cause.Object other another) first second = objects_one objects standings object other rule another first second
causes_one objects standings (cause.Object object rule) cause.Hash first second = absurd (not_hash objects standings object rule first second)
causes_one objects standings cause.Hash (cause.Object object rule) first second = absurd (not_hash objects standings object rule second first)
causes_one objects standings cause.Hash cause.Hash first second = refl

pub verdicts_are_one : VerdictsAreOne
verdicts_are_one f card (Sharded keys) (Sharded other) first second = ap (λ (k : Keys). Sharded k) (given_keys_one f card keys other first second)
verdicts_are_one f card (Sharded keys) (Locked why) first second = absurd (second.0.none keys first.may)
verdicts_are_one f card (Locked why) (Sharded keys) first second = absurd (first.0.none keys second.may)
verdicts_are_one f card (Locked why) (Locked other) first second = ap (λ (c : Cause). Locked c) (causes_one f.objects (own_plan f).standings why other first.1 second.1)
