-- Which calls on files failed follows from what the program answers.
use Rattle.std.proofs.Common.{◌≡◌, ◌⊎◌, inl, inr, ℕ, ◌+◌, ◌≤◌, List, [], ◌∷◌, length, Option, Some, None, Err, refl, sym, subst, ◌∙◌, arith}
use Rattle.nf_files.specs.Told.{Told}
use Rattle.nf_files.specs.Causes.{Counted, Faulted, FaultedAsking, Asked, asking, Rose, FirstAfter}
use Rattle.stream_run.specs.declared.fault.RunFault.{RunFault}
use Rattle.stream_run.specs.declared.fault.RunFault.TheVariants as numbered
use Rattle.stream_run.specs.Writing.{IsStopCause, StopsAt}
use Rattle.command_words.specs.Commands.{Run as RunAsked, Replay, Gen, Hash, Describe, Certify, Prove, Command, RunCommand, ReplayCommand, GenCommand, HashCommand, DescribeCommand, CertifyCommand, ProveCommand}
use Rattle.call_base.specs.declared.status.RunFile.{RunFile}
use Rattle.call_base.specs.declared.status.RunFile.TheVariants.{Nf, Capture, Journal, Output, OutJournal, State, Proof, Stdout, Stderr}
use Rattle.call_base.specs.declared.status.End.{End}
use Rattle.call_base.specs.declared.status.End.TheVariants as ends
use Rattle.call_base.specs.declared.status.Refusal.{Refusal}
use Rattle.call_base.specs.declared.status.Refusal.TheVariants as refusals
use Rattle.call_base.specs.declared.status.CallFault.{CallFault}
use Rattle.call_base.specs.declared.status.CallFault.TheVariants as stops
use Rattle.call_base.specs.declared.status.Status.{Status}
use Rattle.call_base.specs.declared.status.Status.TheVariants.{Done, Usage, Refused, FileFault, NotCapture, Torn, ShareFull, TooMany, NoKeys, Memory, Differs, ProofFails}
use Rattle.replay_call.specs.declared.ending.ReplayEnd.{ReplayEnd}
use Rattle.replay_call.specs.declared.ending.ReplayEnd.TheVariants as checks
use Rattle.replay_call.specs.ReplayEnd.{checked_status, IsRefused as IsUnjudged}
use Rattle.replay_call.specs.Numbers.{numbering as replay_numbering}
use Rattle.call_base.specs.Statuses.{end_status, refusal_status, stop_status}
use Rattle.call_base.specs.Outside.{Outside}
use Rattle.call_base.specs.Layout.{run_numbering}
use Rattle.call_base.specs.Numbers.{Numbering, Faults, StopsBy}
use Rattle.run_call.specs.Ending.{IsRefused, IsStopped}
use Rattle.gen_call.specs.Numbers.{made_numbering}
use Rattle.gen_call.specs.Ending.{IsRefused as IsUnmade, IsStopped as IsBrokenOff}
use Rattle.describe_call.specs.Described.{IsUndescribed}
use Rattle.certify_call.specs.declared.judgement.Judgement.{Judgement}
use Rattle.certify_call.specs.declared.judgement.Judgement.TheVariants as judgements
use Rattle.certify_call.specs.Judgements.{judged_status}
use Rattle.certify_call.specs.Certifying.{asked_by, IsProofCause, IsUnjudged as IsStoppedJudging}
use Rattle.prove_call.specs.Leaving.{IsCreateCause, IsWriteCause, IsHalfWritten, IsHalfPrinted}
use Rattle.prove_call.specs.Proving.{asked_by as proof_asked_by, IsUnproved}
use Rattle.call_base.specs.PrintedOut.{IsPrintCause}
use Rattle.call_base.specs.Loading.{IsTextCause}
use Rattle.call_base.specs.Names.{reading, writing}
use Rattle.call_base.specs.Printed.{Tells, after_stop, stopped_at}
use Rattle.maestro_cli.specs.Answer.{Runs, Replays, Gens, Hashes, Describes, Certifies, Proves, Comes, ComesTo, Answers}
use Rattle.maestro_cli.specs.Causes.{CountsNone, CountsSome, numbering_of, HasStatusCause, HasSoManyPorts, KnowsPorts, KnowsPortsAt, ArePortsOf, HasCallCause}

-- ---- counts

counts_none : (c : Counted) → CountsNone c c
counts_none c = record { faults = refl; first = refl; missing = refl }

-- names were asked for, and no call failed
asked_none : (names : List Asked) (old new : Counted) → new ≡ asking names old → CountsNone old new
asked_none names old new e = subst (CountsNone old) (sym e) (record { faults = refl; first = refl; missing = refl })

-- a call failed, with its name or without
some_faulted : (names : List Asked) (old new : Counted) (number : ℕ) → Faults (asking names old) new number → CountsSome old new number
some_faulted names old new number (inl f) = record { later = f.later; rose = f.rose; first = f.first }
some_faulted names old new number (inr f) = record { later = f.later; rose = f.rose; first = f.first }

some_asking : (names : List Asked) (old new : Counted) (number : ℕ) → FaultedAsking old new names number → CountsSome old new number
some_asking names old new number (inl f) = record { later = f.later; rose = f.rose; first = f.first }
some_asking names old new number (inr f) = record { later = f.later; rose = f.rose; first = f.first }

-- ---- the end of a call

at_end : (numbering : Numbering) (old new : Counted) (how : End) → CountsNone old new → HasStatusCause numbering old new (end_status how)
at_end numbering old new ends.Whole h = h
at_end numbering old new (ends.Torn port offset) h = h
at_end numbering old new (ends.TooMany most) h = h
at_end numbering old new (ends.ShareFull full) h = h

at_refusal : (numbering : Numbering) (old new : Counted) (how : Refusal) → CountsNone old new → HasStatusCause numbering old new (refusal_status how)
at_refusal numbering old new refusals.Usage h = h
at_refusal numbering old new (refusals.Text fault) h = h
at_refusal numbering old new (refusals.NoKeys why) h = h
at_refusal numbering old new (refusals.NotCapture port) h = h

refused_none : (c : RunAsked) (before now : Outside) (how : Refusal) → IsRefused c before now how → CountsNone before.counted now.counted
refused_none c before now refusals.Usage h = asked_none _ before.counted now.counted h.1.asked
refused_none c before now (refusals.Text fault) h = asked_none _ before.counted now.counted h.1.asked
refused_none c before now (refusals.NoKeys why) h = asked_none _ before.counted now.counted h.1.asked
refused_none c before now (refusals.NotCapture port) h = asked_none _ before.counted now.counted h.1.asked

-- a call was stopped
at_stop : (numbering : Numbering) (names : List Asked) (old new : Counted) (stop : CallFault) → StopsBy numbering names old new stop → HasStatusCause numbering old new (stop_status stop)
at_stop numbering names old new (stops.File file) h =
    subst (CountsSome old new) h.cause.number_is (some_faulted h.front old new h.cause.number h.cause.faulted)
at_stop numbering names old new stops.Memory h = asked_none h.front old new h.cause

at_stopped : (R : Type 0) (c : RunAsked) (before now : Outside) (stop : CallFault) → IsStopped R c before now stop → HasStatusCause (run_numbering before.told.next (length c.captures)) before.counted now.counted (stop_status stop)
at_stopped R c before now stop (inl h) = at_stop (run_numbering before.told.next (length c.captures)) _ before.counted now.counted stop h.stops
at_stopped R c before now stop (inr h) = at_stop (run_numbering before.told.next (length c.captures)) _ before.counted now.counted stop h.stops

at_print : (first ports : ℕ) (names : List Asked) (old new : Counted) (stop : CallFault) → IsPrintCause (asking names old) new stop → HasStatusCause (run_numbering first ports) old new (stop_status stop)
at_print first ports names old new (stops.File file) h =
    subst (λ (f : RunFile). CountsSome old new ((run_numbering first ports).number_of f)) (sym h.0) (some_faulted names old new 0 (inl h.1))
at_print first ports names old new stops.Memory h = asked_none names old new h

at_print_alone : (first ports : ℕ) (old new : Counted) (stop : CallFault) → IsPrintCause old new stop → HasStatusCause (run_numbering first ports) old new (stop_status stop)
at_print_alone first ports old new (stops.File file) h =
    subst (λ (f : RunFile). CountsSome old new ((run_numbering first ports).number_of f)) (sym h.0) (record { later = h.1.later; rose = h.1.rose; first = h.1.first })
at_print_alone first ports old new stops.Memory h = subst (CountsNone old) (sym h) (counts_none old)

at_text : (name : List ℕ) (first ports : ℕ) (old new : Counted) (stop : CallFault) → IsTextCause name first old new stop → HasStatusCause (run_numbering first ports) old new (stop_status stop)
at_text name first ports old new (stops.File file) h =
    subst (λ (f : RunFile). CountsSome old new ((run_numbering first ports).number_of f)) (sym h.0) (some_asking _ old new first h.1)
at_text name first ports old new stops.Memory (inl same) = subst (CountsNone old) (sym same) (counts_none old)
at_text name first ports old new stops.Memory (inr more) = asked_none _ old new more

at_undescribed : (c : Describe) (first ports : ℕ) (before now : Outside) (stop : CallFault) → first ≡ before.told.next → IsUndescribed c before now stop → HasStatusCause (run_numbering first ports) before.counted now.counted (stop_status stop)
at_undescribed c first ports before now stop is (inl h) =
    subst (λ (n : ℕ). HasStatusCause (run_numbering n ports) before.counted now.counted (stop_status stop)) (sym is) (at_text c.function before.told.next ports before.counted now.counted stop h.cause)
at_undescribed c first ports before now stop is (inr h) = at_print first ports _ before.counted now.counted stop h.cause

-- ---- what a command comes to

abbrev causes : Option Command → Outside → Outside → Status → Type 0
causes command before now status = HasStatusCause (numbering_of before.told.next 0 command) before.counted now.counted status

of_run : (R : Type 0) (c : RunAsked) (before now : Outside) (status : Status) → Runs R c before now status → causes (Some (RunCommand c)) before now status
of_run R c before now status (inl h) =
    subst (causes (Some (RunCommand c)) before now) (sym h.status_is) (at_end (run_numbering before.told.next (length c.captures)) before.counted now.counted h.how (asked_none _ before.counted now.counted h.ends.asked))
of_run R c before now status (inr (inl h)) =
    subst (causes (Some (RunCommand c)) before now) (sym h.status_is) (at_refusal (run_numbering before.told.next (length c.captures)) before.counted now.counted h.how (refused_none c before now h.how h.ends))
of_run R c before now status (inr (inr h)) =
    subst (causes (Some (RunCommand c)) before now) (sym h.status_is) (at_stopped R c before now h.how h.ends)

at_checked : (numbering : Numbering) (old new : Counted) (how : ReplayEnd) → CountsNone old new → HasStatusCause numbering old new (checked_status how)
at_checked numbering old new checks.Same h = h
at_checked numbering old new (checks.TooMany most) h = h
at_checked numbering old new (checks.Differs at) h = h

unjudged_none : (c : Replay) (before now : Outside) (how : Refusal) → IsUnjudged c before now how → CountsNone before.counted now.counted
unjudged_none c before now refusals.Usage h = asked_none _ before.counted now.counted h.1.asked
unjudged_none c before now (refusals.Text fault) h = asked_none _ before.counted now.counted h.1.asked
unjudged_none c before now (refusals.NoKeys why) h = absurd h
unjudged_none c before now (refusals.NotCapture port) h = asked_none _ before.counted now.counted h.1.asked

of_replay : (c : Replay) (before now : Outside) (status : Status) → Replays c before now status → causes (Some (ReplayCommand c)) before now status
of_replay c before now status (inl h) =
    subst (causes (Some (ReplayCommand c)) before now) (sym h.status_is) (at_checked (replay_numbering before.told.next (length c.captures)) before.counted now.counted h.how (asked_none _ before.counted now.counted h.ends.asked))
of_replay c before now status (inr (inl h)) =
    subst (causes (Some (ReplayCommand c)) before now) (sym h.status_is) (at_refusal (replay_numbering before.told.next (length c.captures)) before.counted now.counted h.how (unjudged_none c before now h.how h.ends))
of_replay c before now status (inr (inr h)) =
    subst (causes (Some (ReplayCommand c)) before now) (sym h.status_is) (at_stop (replay_numbering before.told.next (length c.captures)) _ before.counted now.counted h.how h.ends.stops)

of_hash : (c : Hash) (before now : Outside) (status : Status) → Hashes c before now status → causes (Some (HashCommand c)) before now status
of_hash c before now status (inl h) =
    subst (causes (Some (HashCommand c)) before now) (sym h.0) (subst (CountsNone before.counted) (sym h.1.counted) (counts_none before.counted))
of_hash c before now status (inr h) =
    subst (causes (Some (HashCommand c)) before now) (sym h.status_is) (at_print_alone before.told.next 0 before.counted now.counted h.how h.ends.cause)

of_describe : (c : Describe) (before now : Outside) (status : Status) → Describes c before now status → causes (Some (DescribeCommand c)) before now status
of_describe c before now status (inl h) =
    subst (causes (Some (DescribeCommand c)) before now) (sym h.0) (asked_none _ before.counted now.counted h.1.counted)
of_describe c before now status (inr (inl h)) =
    subst (causes (Some (DescribeCommand c)) before now) (sym h.status_is) (at_refusal (run_numbering before.told.next 0) before.counted now.counted (refusals.Text h.how) (asked_none _ before.counted now.counted h.ends.1.asked))
of_describe c before now status (inr (inr h)) =
    subst (causes (Some (DescribeCommand c)) before now) (sym h.status_is) (at_undescribed c before.told.next 0 before now h.how refl h.ends)

-- the certificate could not be read, behind a function's text
proof_counted : (name : List ℕ) (names : List Asked) (number : ℕ) (old new : Counted) → FaultedAsking (asking names old) new (reading name ∷ []) number → CountsSome old new number
proof_counted name names number old new (inl f) = record { later = f.later; rose = f.rose; first = f.first }
proof_counted name names number old new (inr f) = record { later = f.later; rose = f.rose; first = f.first }

at_proof : (first ports : ℕ) (name : List ℕ) (names : List Asked) (number : ℕ) (old new : Counted) (stop : CallFault) → number ≡ (run_numbering first ports).number_of Proof → IsProofCause name number (asking names old) new stop → HasStatusCause (run_numbering first ports) old new (stop_status stop)
at_proof first ports name names number old new (stops.File file) is h =
    subst (λ (f : RunFile). CountsSome old new ((run_numbering first ports).number_of f)) (sym h.0) (subst (CountsSome old new) is (proof_counted name names number old new h.1))
at_proof first ports name names number old new stops.Memory is (inl same) = asked_none names old new same
at_proof first ports name names number old new stops.Memory is (inr more) = subst (CountsNone old) (sym more) (record { faults = refl; first = refl; missing = refl })

at_judged : (numbering : Numbering) (old new : Counted) (how : Judgement) → CountsNone old new → HasStatusCause numbering old new (judged_status how)
at_judged numbering old new judgements.Right h = h
at_judged numbering old new (judgements.Fails line) h = h

at_unjudged : (c : Certify) (before now : Outside) (stop : CallFault) → IsStoppedJudging c before now stop → HasStatusCause (run_numbering before.told.next 0) before.counted now.counted (stop_status stop)
at_unjudged c before now stop (inl h) = at_text c.function before.told.next 0 before.counted now.counted stop h.cause
at_unjudged c before now stop (inr (inl h)) = at_proof before.told.next 0 c.proof (reading c.function ∷ []) (before.told.next + 1) before.counted now.counted stop (omega arith) h.cause
at_unjudged c before now stop (inr (inr h)) = at_print before.told.next 0 (asked_by c) before.counted now.counted stop h.cause

of_certify : (c : Certify) (before now : Outside) (status : Status) → Certifies c before now status → causes (Some (CertifyCommand c)) before now status
of_certify c before now status (inl h) =
    subst (causes (Some (CertifyCommand c)) before now) (sym h.status_is) (at_judged (run_numbering before.told.next 0) before.counted now.counted h.how (asked_none _ before.counted now.counted h.ends.counted))
of_certify c before now status (inr (inl h)) =
    subst (causes (Some (CertifyCommand c)) before now) (sym h.status_is) (at_refusal (run_numbering before.told.next 0) before.counted now.counted (refusals.Text h.how) (asked_none _ before.counted now.counted h.ends.1.asked))
of_certify c before now status (inr (inr h)) =
    subst (causes (Some (CertifyCommand c)) before now) (sym h.status_is) (at_unjudged c before now h.how h.ends)

-- the certificate's file could not be created, behind a function's text
created_counted : (name : List ℕ) (names : List Asked) (number : ℕ) (old new : Counted) → FaultedAsking (asking names old) new (writing name ∷ []) number → CountsSome old new number
created_counted name names number old new (inl f) = record { later = f.later; rose = f.rose; first = f.first }
created_counted name names number old new (inr f) = record { later = f.later; rose = f.rose; first = f.first }

at_created : (first ports : ℕ) (name : List ℕ) (names : List Asked) (number : ℕ) (old new : Counted) (stop : CallFault) → number ≡ (run_numbering first ports).number_of Proof → IsCreateCause name number (asking names old) new stop → HasStatusCause (run_numbering first ports) old new (stop_status stop)
at_created first ports name names number old new (stops.File file) is h =
    subst (λ (f : RunFile). CountsSome old new ((run_numbering first ports).number_of f)) (sym h.0) (subst (CountsSome old new) is (created_counted name names number old new h.1))
at_created first ports name names number old new stops.Memory is (inl same) = asked_none names old new same
at_created first ports name names number old new stops.Memory is (inr more) = subst (CountsNone old) (sym more) (record { faults = refl; first = refl; missing = refl })

-- it could not be written
at_written : (first ports : ℕ) (names : List Asked) (number : ℕ) (old new : Counted) (stop : CallFault) → number ≡ (run_numbering first ports).number_of Proof → IsWriteCause number (asking names old) new stop → HasStatusCause (run_numbering first ports) old new (stop_status stop)
at_written first ports names number old new (stops.File file) is h =
    subst (λ (f : RunFile). CountsSome old new ((run_numbering first ports).number_of f)) (sym h.0) (subst (CountsSome old new) is (some_faulted names old new number (inl h.1)))
at_written first ports names number old new stops.Memory is h = asked_none names old new h

at_far : (first ports : ℕ) (c : Prove) (number : ℕ) (certificate printed : List ℕ) (before now : Outside) (stop : CallFault) → number ≡ (run_numbering first ports).number_of Proof
    → IsHalfWritten c.proof number (asking (proof_asked_by c) before.counted) certificate before now stop ⊎ IsHalfPrinted c.proof number (asking (proof_asked_by c) before.counted) certificate printed before now stop
    → HasStatusCause (run_numbering first ports) before.counted now.counted (stop_status stop)
at_far first ports c number certificate printed before now stop is (inl h) = at_written first ports (proof_asked_by c) number before.counted now.counted stop is h.cause
at_far first ports c number certificate printed before now stop is (inr h) = at_print first ports (proof_asked_by c) before.counted now.counted stop h.cause

at_unproved : (c : Prove) (before now : Outside) (stop : CallFault) → IsUnproved c before now stop → HasStatusCause (run_numbering before.told.next 0) before.counted now.counted (stop_status stop)
at_unproved c before now stop (inl h) = at_text c.function before.told.next 0 before.counted now.counted stop h.cause
at_unproved c before now stop (inr (inl h)) = at_created before.told.next 0 c.proof (reading c.function ∷ []) (before.told.next + 1) before.counted now.counted stop (omega arith) h.uncreated.cause
at_unproved c before now stop (inr (inr h)) = at_far before.told.next 0 c (before.told.next + 1) h.half.certificate h.half.printed before now stop (omega arith) h.half.far

of_prove : (c : Prove) (before now : Outside) (status : Status) → Proves c before now status → causes (Some (ProveCommand c)) before now status
of_prove c before now status (inl h) =
    subst (causes (Some (ProveCommand c)) before now) (sym h.0) (asked_none _ before.counted now.counted h.1.proved.left.counted)
of_prove c before now status (inr (inl h)) =
    subst (causes (Some (ProveCommand c)) before now) (sym h.status_is) (at_refusal (run_numbering before.told.next 0) before.counted now.counted (refusals.Text h.how) (asked_none _ before.counted now.counted h.ends.1.asked))
of_prove c before now status (inr (inr h)) =
    subst (causes (Some (ProveCommand c)) before now) (sym h.status_is) (at_unproved c before now h.how h.ends)

unmade_none : (c : Gen) (before now : Outside) (how : Refusal) → IsUnmade c before now how → CountsNone before.counted now.counted
unmade_none c before now refusals.Usage h = absurd h
unmade_none c before now (refusals.Text fault) h = asked_none _ before.counted now.counted h.1.asked
unmade_none c before now (refusals.NoKeys why) h = asked_none _ before.counted now.counted h.1.asked
unmade_none c before now (refusals.NotCapture port) h = absurd h

abbrev own_causes : Option Command → Outside → Outside → Status → Type 0
own_causes command before now status = HasCallCause before.told command before.counted now.counted status

knows_file : (told : Told) (name : List ℕ) (ports : ℕ) (file : RunFile) → HasSoManyPorts told name ports → KnowsPorts told name ports file
knows_file told name ports (Output port) h = h
knows_file told name ports OutJournal h = h
knows_file told name ports State h = h
knows_file told name ports Nf h = tt
knows_file told name ports (Capture port) h = tt
knows_file told name ports Journal h = tt
knows_file told name ports Proof h = tt
knows_file told name ports Stdout h = tt
knows_file told name ports Stderr h = tt

knows_stop : (told : Told) (name : List ℕ) (ports : ℕ) (stop : CallFault) → HasSoManyPorts told name ports → KnowsPortsAt told name ports (stop_status stop)
knows_stop told name ports (stops.File file) h = knows_file told name ports file h
knows_stop told name ports stops.Memory h = tt

-- the text could not be read
at_unmade : (c : Gen) (before now : Outside) (stop : CallFault) → IsTextCause c.function before.told.next before.counted now.counted stop → own_causes (Some (GenCommand c)) before now (stop_status stop)
at_unmade c before now (stops.File file) h = record {
  ports = 0;
  of_function = subst (λ (f : RunFile). KnowsPorts before.told c.function 0 f) (sym h.0) tt;
  cause = subst (λ (f : RunFile). CountsSome before.counted now.counted ((made_numbering before.told.next 0).number_of f)) (sym h.0) (some_asking _ before.counted now.counted before.told.next h.1);
}
at_unmade c before now stops.Memory (inl same) = record { ports = 0; of_function = tt; cause = subst (CountsNone before.counted) (sym same) (counts_none before.counted) }
at_unmade c before now stops.Memory (inr more) = record { ports = 0; of_function = tt; cause = asked_none _ before.counted now.counted more }

at_broken : (R : Type 0) (c : Gen) (before now : Outside) (stop : CallFault) → IsBrokenOff c R before now stop → own_causes (Some (GenCommand c)) before now (stop_status stop)
at_broken R c before now stop (inl h) = at_unmade c before now stop h.cause
at_broken R c before now stop (inr h) =
    let ports = length h.run.function.handlers in
    record {
      ports = ports;
      of_function = knows_stop before.told c.function ports stop (record { function = h.run.function; is_function = h.is_run.is_function; as_many = refl });
      cause = at_stop (made_numbering before.told.next ports) _ before.counted now.counted stop h.stops;
    }

knows_end : (told : Told) (name : List ℕ) (ports : ℕ) (how : End) → KnowsPortsAt told name ports (end_status how)
knows_end told name ports ends.Whole = tt
knows_end told name ports (ends.Torn port offset) = tt
knows_end told name ports (ends.TooMany most) = tt
knows_end told name ports (ends.ShareFull full) = tt

knows_refusal : (told : Told) (name : List ℕ) (ports : ℕ) (how : Refusal) → KnowsPortsAt told name ports (refusal_status how)
knows_refusal told name ports refusals.Usage = tt
knows_refusal told name ports (refusals.Text fault) = tt
knows_refusal told name ports (refusals.NoKeys why) = tt
knows_refusal told name ports (refusals.NotCapture port) = tt

of_gen : (R : Type 0) (c : Gen) (before now : Outside) (status : Status) → Gens R c before now status → own_causes (Some (GenCommand c)) before now status
of_gen R c before now status (inl h) = record {
  ports = 0;
  of_function = subst (KnowsPortsAt before.told c.function 0) (sym h.status_is) (knows_end before.told c.function 0 h.how);
  cause = subst (causes (Some (GenCommand c)) before now) (sym h.status_is) (at_end (made_numbering before.told.next 0) before.counted now.counted h.how (asked_none _ before.counted now.counted h.ends.asked));
}
of_gen R c before now status (inr (inl h)) = record {
  ports = 0;
  of_function = subst (KnowsPortsAt before.told c.function 0) (sym h.status_is) (knows_refusal before.told c.function 0 h.how);
  cause = subst (causes (Some (GenCommand c)) before now) (sym h.status_is) (at_refusal (made_numbering before.told.next 0) before.counted now.counted h.how (unmade_none c before now h.how h.ends));
}
of_gen R c before now status (inr (inr h)) =
    subst (own_causes (Some (GenCommand c)) before now) (sym h.status_is) (at_broken R c before now h.how h.ends)

-- the numbers of any other command's files don't hang on ports that no capture tells
whole : (command : Option Command) (before now : Outside) (status : Status) → ArePortsOf before.told command 0 status → causes command before now status → own_causes command before now status
whole command before now status known h = record { ports = 0; of_function = known; cause = h }

of_comes : (R : Type 0) (command : Option Command) (before now : Outside) (status : Status) → Comes R command before now status → own_causes command before now status
of_comes R None before now status h = whole None before now status tt (subst (causes None before now) (sym h.0) (asked_none _ before.counted now.counted h.1.asked))
of_comes R (Some (RunCommand c)) before now status h = whole (Some (RunCommand c)) before now status tt (of_run R c before now status h)
of_comes R (Some (ReplayCommand c)) before now status h = whole (Some (ReplayCommand c)) before now status tt (of_replay c before now status h)
of_comes R (Some (GenCommand c)) before now status h = of_gen R c before now status h
of_comes R (Some (HashCommand c)) before now status h = whole (Some (HashCommand c)) before now status tt (of_hash c before now status h)
of_comes R (Some (DescribeCommand c)) before now status h = whole (Some (DescribeCommand c)) before now status tt (of_describe c before now status h)
of_comes R (Some (CertifyCommand c)) before now status h = whole (Some (CertifyCommand c)) before now status tt (of_certify c before now status h)
of_comes R (Some (ProveCommand c)) before now status h = whole (Some (ProveCommand c)) before now status tt (of_prove c before now status h)

-- want of memory tells no file
memory_tells_none : (told : Told) (command : Option Command) → ArePortsOf told command 0 Memory
memory_tells_none told None = tt
memory_tells_none told (Some (RunCommand c)) = tt
memory_tells_none told (Some (ReplayCommand c)) = tt
memory_tells_none told (Some (GenCommand c)) = tt
memory_tells_none told (Some (HashCommand c)) = tt
memory_tells_none told (Some (DescribeCommand c)) = tt
memory_tells_none told (Some (CertifyCommand c)) = tt
memory_tells_none told (Some (ProveCommand c)) = tt

of_end : (R : Type 0) (command : Option Command) (before now : Outside) (status : Status) → ComesTo R command before now status → own_causes command before now status
of_end R command before now status (inl h) = of_comes R command before now status h
of_end R command before now status (inr h) = whole command before now status (subst (ArePortsOf before.told command 0) (sym h.0) (memory_tells_none before.told command)) (subst (causes command before now) (sym h.0) (asked_none _ before.counted now.counted h.1.asked))

-- ---- what was told of it

-- standard error failed behind a call that no file stopped
behind_none : (old mid new : Counted) (number : ℕ) → CountsNone old mid → Faulted mid new number → CountsSome old new number
behind_none old mid new number h f = record {
  later = subst (λ (n : ℕ). n ≤ new.faults) h.faults f.later;
  rose = subst (λ (n : ℕ). Rose n new.faults) h.faults f.rose;
  first = subst (λ o. FirstAfter o number new.first) h.first f.first;
}

both_none : (old mid new : Counted) → CountsNone old mid → new ≡ mid → CountsNone old new
both_none old mid new h same = subst (CountsNone old) (sym same) h

first_stays : (old mid new : Option ℕ) (number other : ℕ) → FirstAfter old number mid → FirstAfter mid other new → FirstAfter old number new
first_stays (Some first) mid new number other h k = subst (λ o. FirstAfter o other new) h k
first_stays None mid new number other h k = subst (λ o. FirstAfter o other new) h k

-- one more failed behind another
behind_some : (old mid new : Counted) (number other : ℕ) → CountsSome old mid number → Faulted mid new other → CountsSome old new number
behind_some old mid new number other h f = record {
  later = omega (arith, h.later, f.later);
  rose = omega (arith, h.rose, f.later);
  first = first_stays old.first mid.first new.first number other h.first f.first;
}

-- where no file stopped the call, what stops the telling of it is standard error's
told_none : (numbering : Numbering) (stderr : numbering.number_of Stderr ≡ 1) (old mid new : Counted) (stop : RunFault) (at : StopsAt {T = Unit {0}} 1 (Err stop)) → IsStopCause {T = Unit {0}} mid new (Err stop) → CountsNone old mid → HasStatusCause numbering old new (stopped_at stop)
told_none numbering stderr old mid new (numbered.File number) at cause h = subst (CountsSome old new) (at ∙ sym stderr) (behind_none old mid new number h cause)
told_none numbering stderr old mid new numbered.Memory at cause h = both_none old mid new h cause

told_some : (old mid new : Counted) (number : ℕ) (stop : RunFault) → IsStopCause {T = Unit {0}} mid new (Err stop) → CountsSome old mid number → CountsSome old new number
told_some old mid new number (numbered.File other) cause h = behind_some old mid new number other h cause
told_some old mid new number numbered.Memory cause h = subst (λ (c : Counted). CountsSome old c number) (sym cause) h

told_half : (numbering : Numbering) (stderr : numbering.number_of Stderr ≡ 1) (old mid new : Counted) (due : Status) (stop : RunFault) → StopsAt {T = Unit {0}} 1 (Err stop) → IsStopCause {T = Unit {0}} mid new (Err stop) → HasStatusCause numbering old mid due → HasStatusCause numbering old new (after_stop due stop)
told_half numbering stderr old mid new (FileFault file) stop at cause h = told_some old mid new (numbering.number_of file) stop cause h
told_half numbering stderr old mid new Done stop at cause h = told_none numbering stderr old mid new stop at cause h
told_half numbering stderr old mid new Usage stop at cause h = told_none numbering stderr old mid new stop at cause h
told_half numbering stderr old mid new (Refused kind line column) stop at cause h = told_none numbering stderr old mid new stop at cause h
told_half numbering stderr old mid new (NotCapture port) stop at cause h = told_none numbering stderr old mid new stop at cause h
told_half numbering stderr old mid new (Torn port offset) stop at cause h = told_none numbering stderr old mid new stop at cause h
told_half numbering stderr old mid new (ShareFull full) stop at cause h = told_none numbering stderr old mid new stop at cause h
told_half numbering stderr old mid new (NoKeys why) stop at cause h = told_none numbering stderr old mid new stop at cause h
told_half numbering stderr old mid new (TooMany most) stop at cause h = told_none numbering stderr old mid new stop at cause h
told_half numbering stderr old mid new Memory stop at cause h = told_none numbering stderr old mid new stop at cause h
told_half numbering stderr old mid new (Differs place) stop at cause h = told_none numbering stderr old mid new stop at cause h
told_half numbering stderr old mid new (ProofFails line) stop at cause h = told_none numbering stderr old mid new stop at cause h

of_telling : (numbering : Numbering) (stderr : numbering.number_of Stderr ≡ 1) (old : Counted) (ended after : Outside) (due status : Status) → HasStatusCause numbering old ended.counted due → Tells ended after due status → HasStatusCause numbering old after.counted status
of_telling numbering stderr old ended after due status h (inl said) =
    subst (HasStatusCause numbering old after.counted) (sym said.status_is) (subst (λ (c : Counted). HasStatusCause numbering old c due) (sym said.counted) h)
of_telling numbering stderr old ended after due status h (inr half) =
    subst (HasStatusCause numbering old after.counted) (sym half.status_is) (told_half numbering stderr old ended.counted after.counted due half.stop half.at half.cause h)

-- what stops the telling is standard error, which no run creates
knows_none : (told : Told) (name : List ℕ) (ports : ℕ) (stop : RunFault) → KnowsPortsAt told name ports (stopped_at stop)
knows_none told name ports (numbered.File number) = tt
knows_none told name ports numbered.Memory = tt

knows_half : (told : Told) (name : List ℕ) (ports : ℕ) (due : Status) (stop : RunFault) → KnowsPortsAt told name ports due → KnowsPortsAt told name ports (after_stop due stop)
knows_half told name ports (FileFault file) stop h = h
knows_half told name ports Done stop h = knows_none told name ports stop
knows_half told name ports Usage stop h = knows_none told name ports stop
knows_half told name ports (Refused kind line column) stop h = knows_none told name ports stop
knows_half told name ports (NotCapture port) stop h = knows_none told name ports stop
knows_half told name ports (Torn port offset) stop h = knows_none told name ports stop
knows_half told name ports (ShareFull full) stop h = knows_none told name ports stop
knows_half told name ports (NoKeys why) stop h = knows_none told name ports stop
knows_half told name ports (TooMany most) stop h = knows_none told name ports stop
knows_half told name ports Memory stop h = knows_none told name ports stop
knows_half told name ports (Differs place) stop h = knows_none told name ports stop
knows_half told name ports (ProofFails line) stop h = knows_none told name ports stop

knows_told : (told : Told) (name : List ℕ) (ports : ℕ) (ended after : Outside) (due status : Status) → KnowsPortsAt told name ports due → Tells ended after due status → KnowsPortsAt told name ports status
knows_told told name ports ended after due status h (inl said) = subst (KnowsPortsAt told name ports) (sym said.status_is) h
knows_told told name ports ended after due status h (inr half) = subst (KnowsPortsAt told name ports) (sym half.status_is) (knows_half told name ports due half.stop h)

ports_told : (told : Told) (command : Option Command) (ports : ℕ) (ended after : Outside) (due status : Status) → ArePortsOf told command ports due → Tells ended after due status → ArePortsOf told command ports status
ports_told told (Some (GenCommand c)) ports ended after due status h t = knows_told told c.function ports ended after due status h t
ports_told told None ports ended after due status h t = tt
ports_told told (Some (RunCommand c)) ports ended after due status h t = tt
ports_told told (Some (ReplayCommand c)) ports ended after due status h t = tt
ports_told told (Some (HashCommand c)) ports ended after due status h t = tt
ports_told told (Some (DescribeCommand c)) ports ended after due status h t = tt
ports_told told (Some (CertifyCommand c)) ports ended after due status h t = tt
ports_told told (Some (ProveCommand c)) ports ended after due status h t = tt

-- standard error has number 1, whatever is asked for
stderr_is : (first ports : ℕ) (command : Option Command) → (numbering_of first ports command).number_of Stderr ≡ 1
stderr_is first ports None = refl
stderr_is first ports (Some (RunCommand c)) = refl
stderr_is first ports (Some (ReplayCommand c)) = refl
stderr_is first ports (Some (GenCommand c)) = refl
stderr_is first ports (Some (HashCommand c)) = refl
stderr_is first ports (Some (DescribeCommand c)) = refl
stderr_is first ports (Some (CertifyCommand c)) = refl
stderr_is first ports (Some (ProveCommand c)) = refl

-- from what the program answers
pub cause_of : (R : Type 0) (command : Option Command) (before after : Outside) (status : Status) → Answers R command before after status → HasCallCause before.told command before.counted after.counted status
cause_of R command before after status h =
    let due = of_end R command before h.ended h.due h.comes in
    let numbering = numbering_of before.told.next due.ports command in
    record {
      ports = due.ports;
      of_function = ports_told before.told command due.ports h.ended after h.due status due.of_function h.tells;
      cause = of_telling numbering (stderr_is before.told.next due.ports command) before.counted h.ended after h.due status due.cause h.tells;
    }
