-- A run over made-up traffic that was refused or stopped before it created anything.
use Rattle.std.proofs.Common.{◌≡◌, inl, inr, Err, sym, subst}
use Rattle.nf_base.specs.Functions.{function_of}
use Rattle.command_words.specs.Commands.{Gen}
use Rattle.call_base.specs.declared.loading.Found.{Found}
use Rattle.call_base.specs.declared.loading.NoFunction.{NoFunction}
use Rattle.call_base.specs.declared.loading.NoFunction.TheVariants as none
use Rattle.call_base.specs.declared.status.CallFault.TheVariants as stops
use Rattle.call_base.specs.declared.status.Halt.{Halt}
use Rattle.call_base.specs.declared.status.Halt.TheVariants as halts
use Rattle.call_base.specs.declared.status.Refusal.TheVariants as refusals
use Rattle.call_base.specs.Outside.{Outside, IsUntouched}
use Rattle.call_base.specs.Loading.{FindsFunction, HasFoundCause}
use Rattle.call_base.specs.Reading.{HasFound, halt_of}
use Rattle.gen_call.specs.WorkerPlan.{Serves}
use Rattle.gen_call.specs.Ending.{GensTo}

-- ---- the function

-- there is no function
pub is_unfound : (c : Gen) (Refused : Type 0) (before b : Outside) (why : NoFunction) → IsUntouched before.told b.told → FindsFunction before.told c.function (Err why) → HasFoundCause c.function before.told.next before.counted b.counted (Err why) → GensTo c Refused before b (Err (halt_of why))
is_unfound c Refused before b (none.Text fault) untouched finds cause = (finds, record { untouched = untouched; asked = cause })
is_unfound c Refused before b (none.Stop stop) untouched finds cause = inl (record { untouched = untouched; cause = cause })

pub none_since : (c : Gen) (Refused : Type 0) (a before now : Outside) (why : NoFunction) (halt : Halt) → a ≡ before → halt ≡ halt_of why → IsUntouched a.told now.told → FindsFunction a.told c.function (Err why) → HasFoundCause c.function a.told.next a.counted now.counted (Err why) → GensTo c Refused before now (Err halt)
none_since c Refused a before now why halt same is untouched finds cause =
    subst (λ (h : Halt). GensTo c Refused before now (Err h)) (sym is) (subst (λ (o : Outside). GensTo c Refused o now (Err (halt_of why))) same (is_unfound c Refused a now why untouched finds cause))

-- ---- who handles the packets

-- nobody may
pub is_unserved : (c : Gen) (Refused : Type 0) (before now : Outside) (found : Found) (halt : Halt) → HasFound c.function before now found → Serves c (function_of found.source.func) (Err halt) → GensTo c Refused before now (Err halt)
is_unserved c Refused before now found (halts.Refusal (refusals.NoKeys why)) h none =
    (record { function = function_of found.source.func; is_function = h.is_function; needs = none.0; cause = none.1.cause; locked = none.1.locked; says = none.1.says }, h.only)
is_unserved c Refused before now found (halts.Refusal refusals.Usage) h none = absurd none
is_unserved c Refused before now found (halts.Refusal (refusals.Text fault)) h none = absurd none
is_unserved c Refused before now found (halts.Refusal (refusals.NotCapture port)) h none = absurd none
is_unserved c Refused before now found (halts.Stop (stops.File file)) h none = absurd none
is_unserved c Refused before now found (halts.Stop stops.Memory) h none = inl (record { untouched = h.only.untouched; cause = inr h.only.asked })
