-- Words and commands of `clap`, one more at a time.
use Rattle.std.proofs.Common.{◌≡◌, ◌∙◌, ◌||◌, ap, ap₂, refl, sym, subst, true, false, List, Some, Bool}
use denote.Ref.{Bor}
use Rattle.clap.specs.Words.{App, Rule, Text, AddsArg, AddsSubcommand, app_of, rule_of, shape_of, new_app, new_rule, with_rule, with_subcommand}
use Rattle.clap.specs.declared.builder.action.ArgAction.{ArgAction}
use Rattle.clap.specs.declared.builder.arg.Arg.{Arg}
use Rattle.clap.specs.declared.builder.command.Command.{Command}
use Rattle.clap.specs.declared.builder.command.Command.TheViews.{out-Command}
use Rattle.command_words.specs.Made.{IsRule, IsMade}

pub new_word : (a : Arg) (id : Text) → rule_of a ≡ new_rule id → (a.required ≡ false) × (a.global ≡ false) → IsRule a (new_rule id)
new_word a id is optional = record { rule_is = is; local = optional.1 }

pub required_word : (a b : Arg) (rule : Rule) → b ≡ record a { required = true } → IsRule a rule → IsRule b (record rule { required = true })
required_word a b rule is r =
    subst (λ (x : Arg). IsRule x (record rule { required = true })) (sym is)
    (record { rule_is = ap (λ (s : Rule). record s { required = true }) r.rule_is; local = r.local })

pub long_word : (a b : Arg) (name : Bor Text) (rule : Rule) → b ≡ record a { long = Some name } → IsRule a rule → IsRule b (record rule { long = Some name.now })
long_word a b name rule is r =
    subst (λ (x : Arg). IsRule x (record rule { long = Some name.now })) (sym is)
    (record { rule_is = ap (λ (s : Rule). record s { long = Some name.now }) r.rule_is; local = r.local })

pub acting_word : (a b : Arg) (rule : Rule) (action : ArgAction) → b ≡ record a { action = Some action } → IsRule a rule → IsRule b (record rule { action = Some action })
acting_word a b rule action is r =
    subst (λ (x : Arg). IsRule x (record rule { action = Some action })) (sym is)
    (record { rule_is = ap (λ (s : Rule). record s { action = Some action }) r.rule_is; local = r.local })

pub new_command : (c : Command) (name : Text) → app_of c ≡ new_app name → (out-Command c).has_globals ≡ false → IsMade c (new_app name)
new_command c name is local = record { app_is = is; local = local }

no_more : (a b c : Bool) → a ≡ b || c → b ≡ false → c ≡ false → a ≡ false
no_more a b c is none too = is ∙ ap₂ (λ (x y : Bool). x || y) none too

pub with_word : (old new : Command) (a : Arg) (app : App) (rule : Rule) → IsMade old app → IsRule a rule → AddsArg old a new → IsMade new (with_rule app rule)
with_word old new a app rule made word added = record {
  app_is = added.shape word.local ∙ ap₂ with_rule made.app_is word.rule_is;
  local = no_more (out-Command new).has_globals (out-Command old).has_globals a.global added.globals made.local word.local;
}

pub with_command : (old sub new : Command) (app under : App) → IsMade old app → IsMade sub under → AddsSubcommand old sub new → IsMade new (with_subcommand app under.top)
with_command old sub new app under made inner added = record {
  app_is = added.shape inner.local ∙ ap₂ with_subcommand made.app_is (ap (λ (a : App). a.top) inner.app_is);
  local = no_more (out-Command new).has_globals (out-Command old).has_globals (out-Command sub).has_globals added.globals made.local inner.local;
}

-- words behind a command's own
pub moved : (behind : App → App) (old new : Command) (app : App) → IsMade old app → IsMade new (behind (app_of old)) → IsMade new (behind app)
moved behind old new app made is = record { app_is = is.app_is ∙ ap behind made.app_is; local = is.local }

-- a command without words that are global
pub own : (c : Command) → (out-Command c).has_globals ≡ false → IsMade c (app_of c)
own c local = record { app_is = refl; local = local }
