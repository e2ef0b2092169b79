-- Objects that keep no label, in the words of sites.
use Rattle.std.specs.Prelude.{◌≡◌, ◌↔◌, true, [], Some, Contains}
use Rattle.nf_base.specs.declared.decl.ObjectId.{ObjectId}
use Rattle.nf_base.specs.Text.{Function}
use Rattle.nf_base.specs.Objects.{is_written}
use Rattle.nf_sites.specs.Sites.{Site}
use Rattle.nf_sites.specs.OnPaths.{sites_of}
use Rattle.nf_sites.specs.Known.{kept, labels_of}
use Rattle.shard_rules.specs.declared.rule.Rule.{Rule}
use Rattle.shard_rules.specs.Sites.{object_sites}
use Rattle.shard_rules.specs.Plans.{standing}
use Rattle.shard_rules.specs.Laws.{Fits}
use Rattle.shard_rules.specs.Served.{own_sites}
use Rattle.key_synth.specs.Verdicts.{unkept_rule}

-- a written object that has sites and keeps no label, with the rule that fits: some site knows no
-- label, or each knows one
pub record KeepsNone (f : Function) (o : ObjectId) (rule : Rule) : Type 0 where
  pub written : is_written f o ≡ true
  pub site : Site
  pub among : Contains (sites_of f) site
  pub on : site.object ≡ o
  pub none : kept f o ≡ []
  pub fits : Fits rule (labels_of f o) (object_sites o (own_sites f)) []

-- these are the objects that a cause may name
abbrev pub UnkeptObjectsKeepNone : Type 0
UnkeptObjectsKeepNone = (f : Function) (o : ObjectId) (rule : Rule) →
    (unkept_rule (standing f (own_sites f) o) ≡ Some rule) ↔ KeepsNone f o rule
