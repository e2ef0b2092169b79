-- What the crate knows of labels is what is known of them.
use Rattle.std.proofs.Common.{◌≡◌, ℕ, suc, zero, ◌==◌, nat_lt, Bool, true, false, ◌&&◌, cond, List, [], ◌∷◌, get_or, map, Option, Some, None, refl, ap, sym, ◌∙◌}
use Rattle.std.specs.List.{flat_map, list_all, range_with_len}
use Rattle.std.specs.Option.{option_map, option_and_then}
use Rattle.std.proofs.lemmas.List.Folds.{list_all-append}
use Rattle.nf_base.specs.declared.decl.ObjectId.{ObjectId}
use Rattle.nf_base.specs.declared.decl.ObjectId.TheVariants as object
use Rattle.nf_base.specs.declared.expr.Guard as guard
use Rattle.nf_base.specs.Text.{Given, Block, PortBlocks, Function}
use Rattle.nf_base.specs.View.{guard_of}
use Rattle.nf_base.specs.Values.{bits}
use Rattle.nf_base.specs.Doors.{port_blocks}
use Rattle.nf_base.specs.declared.packet.Field.{Field}
use Rattle.nf_base.specs.declared.packet.Field.TheVariants as field
use Rattle.nf_base.specs.declared.packet.Family.{Family}
use Rattle.nf_base.specs.declared.packet.Family.TheVariants as family
use Rattle.nf_base.specs.declared.hash_fields.Hashable.{Hashable}
use Rattle.nf_base.specs.Hashed.{hashable}
use Rattle.nf_base.specs.Statements.{Statement, Ends, Does, Asks, Makes, statements}
use Rattle.nf_sites.specs.Named.{Named, named_as, lesser, least, or_else, speaker}
use Rattle.nf_sites.specs.Sites.{guarded}
use Rattle.nf_sites.specs.Known.{of_width, plain_field, hashed_of, field_set, same_field, field_at, sets_alike, together, field_of_named, label_count, labels_of}
use Rattle.access_keys.specs.Together.{set_in, set_along, set_at, all_set, alike, are_together}
use Rattle.access_keys.specs.Speaking.{named_seen, field_asked, field_of, field_in, field_known, known_by}

-- the field of a label among those of all
label_field : (gs : List Given) (l : ℕ) → get_or (map field_set gs) l None ≡ field_at gs l
label_field [] l = refl
label_field (g ∷ gs) zero = refl
label_field (g ∷ gs) (suc l) = label_field gs l

and_true : (a : Bool) → a && true ≡ a
and_true true = refl
and_true false = refl

one_alike : (chain l r : ℕ) (s : Statement) → list_all (alike chain l r) (set_in s) ≡ sets_alike chain l r s
one_alike chain l r (Ends e) = refl
one_alike chain l r (Does op) = refl
one_alike chain l r (Asks q) = refl
one_alike chain l r (Makes n) =
    and_true (cond (n.chain == chain) (same_field (get_or (map field_set n.labels) l None) (get_or (map field_set n.labels) r None)) true)
    ∙ ap (λ x. cond (n.chain == chain) (same_field x (get_or (map field_set n.labels) r None)) true) (label_field n.labels l)
    ∙ ap (λ x. cond (n.chain == chain) (same_field (field_at n.labels l) x) true) (label_field n.labels r)

all_flat :
    {A B : Type 0} (t : B → Bool) (u : A → Bool) (f : A → List B) → ((x : A) → list_all t (f x) ≡ u x) → (xs : List A) →
    list_all t (flat_map f xs) ≡ list_all u xs
all_flat t u f e [] = refl
all_flat t u f e (x ∷ xs) =
    list_all-append t (f x) (flat_map f xs) ∙ ap (λ r. r && list_all t (flat_map f xs)) (e x)
    ∙ ap (λ r. u x && r) (all_flat t u f e xs)

-- labels are together where each `new` sets them alike
pub same_together : (f : Function) (chain l r : ℕ) → are_together (all_set f) chain l r ≡ together f (object.Chain chain) l r
same_together f chain l r =
    let test = λ (block : Block). list_all (sets_alike chain l r) (statements block) in
    let port = λ (h : PortBlocks). list_all test (port_blocks h) in
    all_flat (alike chain l r) port set_at
    (λ h. all_flat (alike chain l r) test set_along (λ block. all_flat (alike chain l r) (sets_alike chain l r) set_in (one_alike chain l r) (statements block)) (port_blocks h))
    f.handlers
    ∙ sym (all_flat test port port_blocks (λ h. refl) f.handlers)

lesser_as : {A B : Type 0} (f : A → B) (x : Named A) (y : Option (Named A)) → lesser (named_as f x) (option_map (named_as f) y) ≡ option_map (named_as f) (lesser x y)
lesser_as f x None = refl
lesser_as f x (Some y) =
    elim (nat_lt y.label x.label) as (λ b. cond b (Some (named_as f y)) (Some (named_as f x)) ≡ option_map (named_as f) (cond b (Some y) (Some x)))
    [ true ↦ refl | false ↦ refl ]

least_as :
    {A B : Type 0} (t u : ℕ → Bool) (f : A → B) → ((r : ℕ) → t r ≡ u r) → (xs : List (Named A)) →
    least t (map (named_as f) xs) ≡ option_map (named_as f) (least u xs)
least_as t u f e [] = refl
least_as t u f e (x ∷ xs) =
    ap (λ b. cond b (lesser (named_as f x) (least t (map (named_as f) xs))) (least t (map (named_as f) xs))) (e x.label)
    ∙ ap (λ r. cond (u x.label) (lesser (named_as f x) r) r) (least_as t u f e xs)
    ∙ elim (u x.label) as (λ b. cond b (lesser (named_as f x) (option_map (named_as f) (least u xs))) (option_map (named_as f) (least u xs)) ≡ option_map (named_as f) (cond b (lesser x (least u xs)) (least u xs)))
    [ true ↦ lesser_as f x (least u xs) | false ↦ refl ]

or_else_as : {A B : Type 0} (f : A → B) (x y : Option A) → or_else (option_map f x) (option_map f y) ≡ option_map f (or_else x y)
or_else_as f None y = refl
or_else_as f (Some x) y = refl

speaker_as :
    {A B : Type 0} (t u : ℕ → Bool) (f : A → B) → ((r : ℕ) → t r ≡ u r) → (l : ℕ) (xs : List (Named A)) →
    speaker t l (map (named_as f) xs) ≡ option_map (named_as f) (speaker u l xs)
speaker_as t u f e l xs =
    ap (λ r. or_else r (least t (map (named_as f) xs))) (least_as (λ r. r == l) (λ r. r == l) f (λ r. refl) xs)
    ∙ ap (λ r. or_else (option_map (named_as f) (least (λ r. r == l) xs)) r) (least_as t u f e xs)
    ∙ or_else_as (named_as f) (least (λ r. r == l) xs) (least u xs)

when : (family : Family) (b : Bool) (field : Field) → option_and_then (hashable family) (cond b (Some field) None) ≡ cond b (hashable family field) None
when family true field = refl
when family false field = refl

neither : {A : Type 0} (x : A) (b : Bool) → cond b x x ≡ x
neither x true = refl
neither x false = refl

-- what a value's field is to a family, with the width first or last
by_field : (family : Family) (field : Field) (w : ℕ) → option_and_then (hashable family) (hashed_of w (Some field)) ≡ of_width family w (hashable family field)
by_field family.Four field.Time w = refl
by_field family.Six field.Time w = refl
by_field family.Four field.Length w = refl
by_field family.Six field.Length w = refl
by_field family.Four field.SrcMac w = refl
by_field family.Six field.SrcMac w = refl
by_field family.Four field.DstMac w = refl
by_field family.Six field.DstMac w = refl
by_field family.Four field.SrcIp w = when family.Four (w == 32) field.SrcIp
by_field family.Six field.SrcIp w = when family.Six (w == 32) field.SrcIp ∙ neither {A = Option Hashable} None (w == 32)
by_field family.Four field.DstIp w = when family.Four (w == 32) field.DstIp
by_field family.Six field.DstIp w = when family.Six (w == 32) field.DstIp ∙ neither {A = Option Hashable} None (w == 32)
by_field family.Four field.SrcIp6 w = when family.Four (w == 128) field.SrcIp6 ∙ neither {A = Option Hashable} None (w == 128)
by_field family.Six field.SrcIp6 w = when family.Six (w == 128) field.SrcIp6
by_field family.Four field.DstIp6 w = when family.Four (w == 128) field.DstIp6 ∙ neither {A = Option Hashable} None (w == 128)
by_field family.Six field.DstIp6 w = when family.Six (w == 128) field.DstIp6
by_field family.Four field.Proto w = refl
by_field family.Six field.Proto w = refl
by_field family.Four field.Ttl w = refl
by_field family.Six field.Ttl w = refl
by_field family.Four field.SrcPort w = when family.Four (w == 16) field.SrcPort
by_field family.Six field.SrcPort w = when family.Six (w == 16) field.SrcPort
by_field family.Four field.DstPort w = when family.Four (w == 16) field.DstPort
by_field family.Six field.DstPort w = when family.Six (w == 16) field.DstPort

by_set : (family : Family) (w : ℕ) (o : Option Field) → option_and_then (hashable family) (hashed_of w o) ≡ of_width family w (option_and_then (hashable family) o)
by_set family w None = refl
by_set family w (Some field) = by_field family field w

field_as : (family : Family) (x : Option (Named Given)) → field_in family (field_of (option_map (named_as field_set) x)) ≡ field_of_named family x
field_as family None = refl
field_as family (Some x) = by_set family (bits x.given.width) (plain_field x.given.value)

pub map_agree : {A B : Type 0} (f g : A → B) → ((x : A) → f x ≡ g x) → (xs : List A) → map f xs ≡ map g xs
map_agree f g e [] = refl
map_agree f g e (x ∷ xs) = ap (λ y. y ∷ map f xs) (e x) ∙ ap (λ r. g x ∷ r) (map_agree f g e xs)

-- the fields by which an object's labels are known
pub same_known :
    (f : Function) (family : Family) (o : ObjectId) (xs : List (Named Given)) →
    known_by family (all_set f) f.chains o (map (named_as field_set) xs)
    ≡ map (λ l. field_of_named family (speaker (together f o l) l xs)) (labels_of f o)
same_known f family (object.Chain chain) xs =
    map_agree (field_known family (all_set f) chain (map (named_as field_set) xs)) (λ l. field_of_named family (speaker (together f (object.Chain chain) l) l xs))
    (λ l.
    ap (λ s. field_in family (field_of s)) (speaker_as (are_together (all_set f) chain l) (together f (object.Chain chain) l) field_set (same_together f chain l) l xs)
    ∙ field_as family (speaker (together f (object.Chain chain) l) l xs))
    (range_with_len 0 (label_count f.chains chain))
same_known f family (object.Array array) xs =
    ap (λ r. r ∷ [])
    (ap (λ s. field_in family (field_of s)) (speaker_as (λ r. false) (λ r. false) field_set (λ r. refl) 0 xs) ∙ field_as family (speaker (λ r. false) 0 xs))

-- the labels that a `find` asks for
pub same_asked : (gs : List guard.Guard) → map named_seen (map field_asked gs) ≡ map (named_as field_set) (guarded (map guard_of gs))
same_asked [] = refl
same_asked (g ∷ gs) = ap (λ r. named_seen (field_asked g) ∷ r) (same_asked gs)
