-- Which objects keep no label.
use Rattle.std.proofs.Common.{◌≡◌, ℕ, true, refl, ap, sym, ◌∙◌, List, [], ◌∷◌, Contains, Some, None, if◌then◌else◌, inl, inr}
use Rattle.std.proofs.lemmas.Bool.{cases_Bool, false≢true}
use Rattle.std.proofs.lemmas.Option.{same_Some}
use Rattle.nf_base.specs.declared.decl.ObjectId.{ObjectId}
use Rattle.nf_base.specs.Text.{Function}
use Rattle.nf_base.specs.Objects.{is_written}
use Rattle.nf_laws.proofs.Listed.{here, has_none}
use Rattle.nf_sites.specs.OnPaths.{sites_of}
use Rattle.nf_sites.specs.Known.{labels_of}
use Rattle.nf_sites.proofs.Lists.{from_map, to_map}
use Rattle.access_keys.specs.declared.site.Site.{Site}
use Rattle.access_keys.specs.Told.{site_told}
use Rattle.shard_rules.specs.declared.rule.Rule.{Rule}
use Rattle.shard_rules.specs.declared.plan.ObjectVerdict.TheVariants.{ReadOnly, Unused}
use Rattle.shard_rules.specs.Sites.{object_sites}
use Rattle.shard_rules.specs.Rules.{kept_labels, rule_of}
use Rattle.shard_rules.specs.Plans.{is_any, ruled, standing}
use Rattle.shard_rules.specs.Served.{own_sites}
use Rattle.shard_rules.proofs.Table.{one_rule}
use Rattle.shard_rules.proofs.Keeping.{of_object}
use Rattle.shard_rules.proofs.Own.{own_kept}
use Rattle.key_synth.specs.Verdicts.{rule_if_none, unkept_rule}
use Rattle.key_synth.specs.Causes.{KeepsNone, UnkeptObjectsKeepNone}

no_labels : (rule found : Rule) (ls : List ℕ) → rule_if_none found ls ≡ Some rule → (ls ≡ []) × (found ≡ rule)
no_labels rule found [] e = (refl, same_Some _ _ e)
no_labels rule found (l ∷ ls) e = absurd (let bad : None ≡ Some rule = e in cc)

with_labels : (rule found : Rule) (ls : List ℕ) → ls ≡ [] → found ≡ rule → rule_if_none found ls ≡ Some rule
with_labels rule found ls none same = ap (rule_if_none found) none ∙ ap Some same

first_of : (sites : List Site) → is_any sites ≡ true → (s : Site) × Contains sites s
first_of [] none = absurd (false≢true none)
first_of (s ∷ sites) some = (s, here s sites)

some_of : (sites : List Site) (s : Site) → Contains sites s → is_any sites ≡ true
some_of [] s i = absurd (has_none s i)
some_of (t ∷ sites) s i = refl

-- the sites of an object, and its labels
abbrev on : Function → ObjectId → List Site
on f o = object_sites o (own_sites f)

keeps_none : (f : Function) (o : ObjectId) (rule : Rule) → is_written f o ≡ true → is_any (on f o) ≡ true → rule_if_none (rule_of (labels_of f o) (on f o) (kept_labels (labels_of f o) (on f o))) (kept_labels (labels_of f o) (on f o)) ≡ Some rule
    → KeepsNone f o rule
keeps_none f o rule written some e =
    let parts = no_labels rule (rule_of (labels_of f o) (on f o) (kept_labels (labels_of f o) (on f o))) (kept_labels (labels_of f o) (on f o)) e in
    let s = first_of (on f o) some in
    let both = (of_object o (own_sites f) s.0).0 s.1 in
    let x = from_map (site_told f) (sites_of f) s.0 both.0 in
    record {
      written = written;
      site = x.0;
      among = x.1;
      on = ap (λ (t : Site). t.object) x.2 ∙ both.1;
      none = sym (own_kept f o) ∙ parts.0;
      fits = (one_rule rule (labels_of f o) (on f o) []).1 (ap (rule_of (labels_of f o) (on f o)) (sym parts.0) ∙ parts.1);
    }

unkept : (f : Function) (o : ObjectId) (rule : Rule) → unkept_rule (standing f (own_sites f) o) ≡ Some rule → KeepsNone f o rule
unkept f o rule e =
    elim (cases_Bool (is_written f o)) [
      | inr w ↦ absurd (let bad : None ≡ Some rule = sym (ap (λ b. unkept_rule (if b then (if is_any (on f o) then ruled (labels_of f o) (on f o) else Unused) else ReadOnly)) w) ∙ e in cc)
      | inl w ↦
          let of_written : unkept_rule (if is_any (on f o) then ruled (labels_of f o) (on f o) else Unused) ≡ Some rule =
          sym (ap (λ b. unkept_rule (if b then (if is_any (on f o) then ruled (labels_of f o) (on f o) else Unused) else ReadOnly)) w) ∙ e in
          elim (cases_Bool (is_any (on f o))) [
            | inr a ↦ absurd (let bad : None ≡ Some rule = sym (ap (λ b. unkept_rule (if b then ruled (labels_of f o) (on f o) else Unused)) a) ∙ of_written in cc)
            | inl a ↦ keeps_none f o rule w a (sym (ap (λ b. unkept_rule (if b then ruled (labels_of f o) (on f o) else Unused)) a) ∙ of_written)
          ]
    ]

back : (f : Function) (o : ObjectId) (rule : Rule) → KeepsNone f o rule → unkept_rule (standing f (own_sites f) o) ≡ Some rule
back f o rule none =
    let s : Site = site_told f none.site in
    let among : Contains (on f o) (site_told f none.site) = (of_object o (own_sites f) (site_told f none.site)).1 (to_map (site_told f) (sites_of f) none.site none.among, none.on) in
    let some : is_any (on f o) ≡ true = some_of (on f o) (site_told f none.site) among in
    let labels : kept_labels (labels_of f o) (on f o) ≡ [] = own_kept f o ∙ none.none in
    let rule_is : rule_of (labels_of f o) (on f o) (kept_labels (labels_of f o) (on f o)) ≡ rule =
    ap (rule_of (labels_of f o) (on f o)) labels ∙ (one_rule rule (labels_of f o) (on f o) []).0 none.fits in
    ap (λ b. unkept_rule (if b then (if is_any (on f o) then ruled (labels_of f o) (on f o) else Unused) else ReadOnly)) none.written
    ∙ ap (λ b. unkept_rule (if b then ruled (labels_of f o) (on f o) else Unused)) some
    ∙ with_labels rule (rule_of (labels_of f o) (on f o) (kept_labels (labels_of f o) (on f o))) (kept_labels (labels_of f o) (on f o)) labels rule_is

pub unkept_objects_keep_none : UnkeptObjectsKeepNone
unkept_objects_keep_none f o rule = (unkept f o rule, back f o rule)
