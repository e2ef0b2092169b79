-- Verdicts on a function, and their causes.
use Rattle.std.specs.Prelude.{◌≡◌, ℕ, ◌<◌, List, [], ◌∷◌, length, Option, Some, None, slice_get}
use Rattle.nf_base.specs.declared.card.Card.{Card}
use Rattle.nf_base.specs.declared.decl.ObjectId.{ObjectId}
use Rattle.nf_base.specs.Text.{Function}
use Rattle.shard_rules.specs.declared.rule.Rule.{Rule}
use Rattle.shard_rules.specs.declared.plan.ObjectVerdict.{ObjectVerdict}
use Rattle.shard_rules.specs.declared.plan.ObjectVerdict.TheVariants.{ReadOnly, Unused, Ruled}
use Rattle.shard_rules.specs.Served.{own_plan}
use Rattle.key_synth.specs.declared.verdict.Cause.{Cause}
use Rattle.key_synth.specs.declared.verdict.Cause.TheVariants as cause
use Rattle.key_synth.specs.declared.verdict.Verdict.{Verdict}
use Rattle.key_synth.specs.declared.verdict.Verdict.TheVariants.{Sharded, Locked}
use Rattle.key_synth.specs.Keys.{AreGiven, NoneMayBeGiven}
use Rattle.toeplitz_hash.specs.Meeting.{HashAlikeWhereTheyMeet}

-- the rule by which an object's labels are kept, where none is
abbrev pub rule_if_none : Rule → List ℕ → Option Rule
rule_if_none rule [] = Some rule
rule_if_none rule (l ∷ ls) = None

-- the rule of a written object that has sites and keeps no label
abbrev pub unkept_rule : ObjectVerdict → Option Rule
unkept_rule ReadOnly = None
unkept_rule Unused = None
unkept_rule (Ruled rule kept) = rule_if_none rule kept

-- No object before a number is such a one.
pub record AreKeptBefore (standings : List ObjectVerdict) (n : ℕ) : Type 0 where
  pub none : (i : ℕ) (s : ObjectVerdict) → i < n → slice_get standings i ≡ Some s →
      unkept_rule s ≡ None

-- an object is the first such one of a function's, with its rule
pub record IsFirstUnkept (objects : List ObjectId) (standings : List ObjectVerdict)
    (object : ObjectId) (rule : Rule) : Type 0 where
  pub i : ℕ
  pub standing : ObjectVerdict
  pub there : slice_get objects i ≡ Some object
  pub stands : slice_get standings i ≡ Some standing
  pub unkept : unkept_rule standing ≡ Some rule
  pub first : AreKeptBefore standings i

-- The cause is the first written object in text order that has sites and keeps no label, with its
-- rule, or the hash where each keeps one.
abbrev pub IsCause : List ObjectId → List ObjectVerdict → Cause → Type 0
IsCause objects standings (cause.Object object rule) = IsFirstUnkept objects standings object rule
IsCause objects standings cause.Hash = AreKeptBefore standings (length standings)

-- Sharded with the given keys; locked, with the cause, where no admissible keys spread
abbrev pub IsVerdict : Function → Card → Verdict → Type 0
IsVerdict f card (Sharded keys) = AreGiven f card keys
IsVerdict f card (Locked why) = NoneMayBeGiven f card × IsCause f.objects (own_plan f).standings why

-- two verdicts on one function, for one card, are equal
abbrev pub VerdictsAreOne : Type 0
VerdictsAreOne = (f : Function) (card : Card) (verdict other : Verdict) →
    IsVerdict f card verdict → IsVerdict f card other → verdict ≡ other

-- Packets that meet have equal hashes under the keys of a verdict.
abbrev pub Separates : Function → Verdict → Type 0
Separates f (Sharded keys) = HashAlikeWhereTheyMeet f keys
Separates f (Locked why) = Unit {0}
