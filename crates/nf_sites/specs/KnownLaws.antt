-- Laws of labels that are together, and of what speaks for a label.
use Rattle.std.specs.Prelude.{◌≡◌, ◌≢◌, ◌↔◌, ◌≤◌, ℕ, Bool, true, false, List, Some, None, Contains}
use Rattle.nf_base.specs.Doors.{blocks}
use Rattle.nf_base.specs.declared.packet.Family.{Family}
use Rattle.nf_base.specs.declared.decl.ObjectId.TheVariants as object
use Rattle.nf_base.specs.declared.packet.Field.{Field}
use Rattle.nf_base.specs.Text.{Read, Given, Creation, Block, Function}
use Rattle.nf_base.specs.Values.{bits}
use Rattle.nf_base.specs.Statements.{Makes, statements}
use Rattle.nf_base.specs.declared.hash_fields.Hashable.{Hashable}
use Rattle.nf_base.specs.Hashed.{width, hashable}
use Rattle.nf_sites.specs.Named.{Named, speaker}
use Rattle.nf_sites.specs.Known.{field_given, field_at, together}

-- a value is a plain field that is hashed, of the width of what it is given to
pub record IsPlainField (family : Family) (g : Given) (h : Hashable) : Type 0 where
  pub field : Field
  pub plain : g.value ≡ Read field
  pub hashed : hashable family field ≡ Some h
  pub fits : bits g.width ≡ width family h

-- what a value is known by
abbrev pub FieldsAreGiven : Type 0
FieldsAreGiven =
    (family : Family) (g : Given) (h : Hashable) → (field_given family g ≡ Some h) ↔ IsPlainField family g h

-- a `new` sets two labels from one field
pub record SetsOneField (n : Creation) (l r : ℕ) : Type 0 where
  pub field : Field
  pub first : field_at n.labels l ≡ Some field
  pub second : field_at n.labels r ≡ Some field

-- so does each `new` of a chain in the whole text
abbrev pub AllSetOneField : Function → (chain l r : ℕ) → Type 0
AllSetOneField f chain l r =
    (block : Block) (n : Creation) → Contains (blocks f) block →
    Contains (statements block) (Makes n) → n.chain ≡ chain → SetsOneField n l r

-- these labels are together
abbrev pub TogetherIs : Type 0
TogetherIs =
    (f : Function) (chain l r : ℕ) →
    (together f (object.Chain chain) l r ≡ true) ↔ AllSetOneField f chain l r

-- What speaks for a label: one that is named itself; or else, where it is not named, one that is
-- together with it, with the least label.
pub record Speaks {A : Type 0} (is_together : ℕ → Bool) (l : ℕ) (xs : List (Named A))
    (x : Named A) : Type 0 where
  pub named : Contains xs x
  pub unless_named : (y : Named A) → Contains xs y → y.label ≡ l → x.label ≡ l
  pub or_together : x.label ≢ l → is_together x.label ≡ true
  pub first : (y : Named A) → x.label ≢ l → Contains xs y → is_together y.label ≡ true →
      x.label ≤ y.label

-- neither the label nor one that is together with it is named
pub record NoneSpeaks {A : Type 0} (is_together : ℕ → Bool) (l : ℕ) (xs : List (Named A)) :
    Type 0 where
  pub not_named : (y : Named A) → Contains xs y → y.label ≢ l
  pub none_together : (y : Named A) → Contains xs y → is_together y.label ≡ false

-- the speaker speaks
abbrev pub SpeakersSpeak : Type 0
SpeakersSpeak =
    (is_together : ℕ → Bool) (l : ℕ) (xs : List (Named Given)) (x : Named Given) →
    speaker is_together l xs ≡ Some x → Speaks is_together l xs x

-- and where there is none, none does
abbrev pub NoneSpeaksWhere : Type 0
NoneSpeaksWhere =
    (is_together : ℕ → Bool) (l : ℕ) (xs : List (Named Given)) →
    speaker is_together l xs ≡ None → NoneSpeaks is_together l xs
