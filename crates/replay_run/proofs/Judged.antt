-- A judge goes on judging.
use Rattle.std.proofs.Common.{◌≡◌, ◌<◌, ◌∙◌, ℕ, List, Option, length, ap, sym, subst}
use Rattle.std.specs.Prelude.{IfSome}
use denote.Ref.{Bor}
use Rattle.std.proofs.lemmas.List.{length-map}
use Rattle.nf_base.specs.declared.func.Func.{Func}
use Rattle.nf_base.specs.declared.keys.Keys.{Keys}
use Rattle.file_match.specs.Comparing.{Comparing}
use Rattle.journal_check.specs.Judging.{Judging}
use Rattle.nf_engine.specs.View.{Fixed}
use Rattle.rss_table.specs.Tables.{even_table}
use Rattle.run_history.specs.Headings.{Heading}
use Rattle.run_history.specs.declared.line.Mode.{Mode}
use Rattle.replay_run.specs.Given.{CanJudge, SameJudge}
use Rattle.replay_run.specs.Outputs.{files_of}
use Rattle.replay_run.specs.Queues.{IsKeyed}

pub judges_on : (func : Func) (keys : Option (Bor Keys)) (table : List ℕ) (mode : Mode) (old new : Judging) → SameJudge old new → CanJudge func keys table mode old → CanJudge func keys table mode new
judges_on func keys table mode old new same h =
    let was = sym same.heading in
    record {
      of_func = ap (λ (x : Fixed). x.decls) same.tables ∙ h.of_func;
      mode_is = ap (λ (x : Heading). x.mode) same.heading ∙ h.mode_is;
      keyed = subst (λ (x : Heading). IsKeyed x.mode keys) was h.keyed;
      ports = h.ports;
      table_is = subst (λ (x : Heading). IfSome keys (λ k. table ≡ even_table k.now.table x.workers)) was h.table_is;
      some = subst (λ (x : Heading). 0 < x.workers) was h.some;
    }

-- outputs are as many as their files
pub output_count : (all : List Comparing) (n : ℕ) → length (files_of all) ≡ n → length all ≡ n
output_count all n e = sym (length-map all (λ c. c.file)) ∙ e
