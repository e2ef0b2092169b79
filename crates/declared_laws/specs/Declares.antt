-- A function whose text breaks no rule comes to no object but those that it declares.
use Rattle.std.specs.Prelude.{◌≡◌, [], All, Contains}
use Rattle.nf_base.specs.Text.{Function}
use Rattle.nf_tree.specs.Tree.{Tree}
use Rattle.nf_types.specs.Function.{function}
use Rattle.nf_types.specs.TextFaults.{faults}
use Rattle.access_keys.specs.declared.site.Site.{Site}
use Rattle.shard_rules.specs.Served.{own_sites}

-- A function declares each object that it comes to.
pub record DeclaresObjects (f : Function) : Type 0 where
  pub each : All (λ (s : Site). Contains f.objects s.object) (own_sites f)

-- so each function does whose text breaks no rule
abbrev pub FunctionsDeclareTheirObjects : Type 0
FunctionsDeclareTheirObjects = (tree : Tree) (f : Function) → faults tree ≡ [] →
    function tree ≡ f → DeclaresObjects f
