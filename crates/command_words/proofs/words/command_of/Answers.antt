use Rattle.std.proofs.Common.{◌≡◌, ◌⊎◌, ◌∙◌, map, ap, sym, refl, true, Option, None, inl, inr, [], ◌∷◌}
use Rattle.std.specs.String.{string_bytes}
use Rattle.std.proofs.lemmas.Result.{IfOk-weaker}
use Rattle.clap.specs.Words.{App, Kinds, app_of, fault_of, is_simple, is_simple_and_free, subcommand_of, subcommand_rows_of, IsAmong, kind_of}
use Rattle.clap.proofs.OnLiterals.{clap_on_literals}
use Rattle.clap.specs.declared.error.kind.ErrorKind.{ErrorKind}
use Rattle.clap.specs.declared.error.kind.ErrorKind.TheVariants.{OutOfMemory}
use Rattle.command_words.specs.Grammar.{app, certify_app, description_app, description_names, flag, gen_amounts, gen_app, gen_names, hash_app, keys_app, option, replay_app, replay_names, run_amounts, run_app, run_names, with_card, with_descriptions, with_runs, word, words}
use Rattle.command_words.specs.Commands.{Command, in_match, if_faultless}
use Rattle.command_words.proofs.words.command_of.Goals as goal

app_is_simple : is_simple app ≡ true
unfolding clap_on_literals word words option flag run_names with_card run_amounts run_app replay_names replay_app gen_names gen_amounts gen_app hash_app keys_app certify_app description_names description_app with_descriptions with_runs app
app_is_simple = refl

app_is_free : is_simple_and_free app ≡ true
unfolding clap_on_literals word words option flag run_names with_card run_amounts run_app replay_names replay_app gen_names gen_amounts gen_app hash_app keys_app certify_app description_names description_app with_descriptions with_runs app
app_is_free = refl

-- an error that is no want of memory is a fault of the words
none_if : (kinds : Kinds) (k : ErrorKind) (o : Option Command) → (k ≡ OutOfMemory → ⊥) → (k ≡ OutOfMemory) ⊎ IsAmong k kinds → None ≡ if_faultless kinds o
none_if [] k o other fault = elim fault [ inl e ↦ absurd (other e) | inr e ↦ absurd e ]
none_if (x ∷ kinds) k o other fault = refl

pub returns-in-Ok-clause-value : goal.returns-in-Ok-clause-value
returns-in-Ok-clause-value c =
    let words = map string_bytes c.args.words.now in
    let app_is : app_of c.in_ok-command.command ≡ app = c.in_ok-command.ensures.app_is in
    let found : subcommand_rows_of c.in-Ok.matches ≡ subcommand_of app words =
    (c.in-Ok.ensures.matches (ap is_simple app_is ∙ app_is_simple)).1 ∙ ap (λ (a : App). subcommand_of a words) app_is in
    let faultless : fault_of app words ≡ [] =
    sym (ap (λ (a : App). fault_of a words) app_is) ∙ c.in-Ok.ensures.kinds (ap is_simple_and_free app_is ∙ app_is_free) in
    IfOk-weaker c.in_match.result _ _ (λ r h. h ∙ ap in_match found ∙ sym (ap (λ (ks : Kinds). if_faultless ks (in_match (subcommand_of app words))) faultless)) c.in_match.ensures.value

pub returns-clause-value : goal.returns-clause-value
returns-clause-value c =
    let words = map string_bytes c.args.words.now in
    let app_is : app_of c.in_ok-command.command ≡ app = c.in_ok-command.ensures.app_is in
    let fault = c.in-Err.ensures.kinds (ap is_simple_and_free app_is ∙ app_is_free) in
    let at_app = none_if (fault_of (app_of c.in_ok-command.command) words) (kind_of c.in-Err.error) (in_match (subcommand_of app words)) (λ e. c.in_default.not-OutOfMemory (c.kind.ensures ∙ e)) fault in
    at_app ∙ ap (λ (a : App). if_faultless (fault_of a words) (in_match (subcommand_of app words))) app_is
