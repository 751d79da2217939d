-- The promises of the program, from the run by the plan that it makes.
use Rattle.std.proofs.Common.{◌≡◌, ◌≢◌, ℕ, ◌+◌, List, [], ◌++◌, sym, ◌∙◌, ap, subst, arith, ◌⊎◌, inl, inr}
use Rattle.std.specs.Prelude.{Option, Some, None, IfSome, option_map}
use Rattle.outside.specs.declared.status.Status.{Status}
use Rattle.outside.specs.declared.status.Status.TheVariants.{Done, Usage, SourceFault, ShelfFailed, SinkFailed, NoMemory}
use Rattle.outside.specs.Statuses.{code_of}
use Rattle.outside.specs.Meaning.{Files, raised, IsProperPrefix}
use Rattle.outside.specs.Plan.{Event, bytes_of, calls_of}
use Rattle.outside.specs.Output.{IsPrefix, EndsAtCall}
use Rattle.outside.proofs.Causes.{shelf_cause}
use Rattle.outside.proofs.Endings.{ends_at_call, wrote_prefix, wrote_proper_prefix}
use Rattle.outside.proofs.Events.{calls_of-append}
use Rattle.outside.proofs.Outputs.{output_where_told, complete_where_told}
use Rattle.penelope_cli.specs.Causes.{CalledFor}
use Rattle.penelope_cli.specs.Commands.{command_of}
use Rattle.penelope_cli.specs.Plans.{plan_of}
use Rattle.penelope_cli.specs.Sources.{AreFaulty}
use Rattle.penelope_cli.specs.Promises.{Run, EndsAs, OfFiles, Asks, RanAs, HasOutput, HasWholeOutput, HasOutputWith, IsUndisturbed, planned, Keeps}
use Rattle.penelope_cli.proofs.Codes.{same_status}
use Rattle.penelope_cli.proofs.FirstBytes.{too_long_cause}
use Rattle.penelope_cli.proofs.Plans.{usage_status, only_usage, plan_reports, sound_status, faulty_status, only_faulty}

-- where the files are told, one fact of them gives another
if_told : (holds : Option Files) (P Q : Files → Type 0) → ((files : Files) → P files → Q files) → IfSome holds P → IfSome holds Q
if_told None P Q f h = tt
if_told (Some files) P Q f h = f files h

calls_whole : (front rest : List Event) → rest ≡ [] → calls_of (front ++ rest) ≡ calls_of front
calls_whole front rest e = calls_of-append front rest ∙ omega (arith, ap calls_of e)

fault_no_sink : SourceFault ≢ SinkFailed
fault_no_sink e = cc

fault_no_memory : SourceFault ≢ NoMemory
fault_no_memory e = cc

module _ (run : Run) (status : Status) (coded : EndsAs run status) (ran : RanAs run status) where
  -- what the exit status tells of the status
  is : (other : Status) → EndsAs run other → status ≡ other
  is other e = same_status status other (sym coded ∙ e)

  ends : (other : Status) → status ≡ other → EndsAs run other
  ends other e = coded ∙ ap code_of e

  ran_as : (other : Status) → EndsAs run other → RanAs run other
  ran_as other e = subst (RanAs run) (is other e) ran

  outputs : OfFiles run (λ files. HasOutput run files status)
  outputs = output_where_told (plan_of run.words) status run.shelf run.shelf_after run.sink run.sink_after ran

  of_output : (Q : Files → Type 0) → ((files : Files) → HasOutput run files status → Q files) → OfFiles run Q
  of_output Q f = if_told run.shelf.holds (λ files. HasOutput run files status) Q f outputs

  -- that the status isn't one that the exit status isn't
  no_other : (other : Status) → ¬ EndsAs run other → status ≢ other
  no_other other never e = never (ends other e)

  faulty_code : (other : Status) → status ≡ other → (other ≡ ShelfFailed) ⊎ (other ≡ SourceFault) → ¬ EndsAs run ShelfFailed → EndsAs run SourceFault
  faulty_code other e (inl shelf) never = absurd (never (ends ShelfFailed (e ∙ shelf)))
  faulty_code other e (inr fault) never = ends SourceFault (e ∙ fault)

  whole_output : OfFiles run (λ files. IsUndisturbed run → HasWholeOutput run files status)
  whole_output =
      if_told run.shelf.holds _ _ (λ files w calm. w calm.shelf calm.sink (no_other NoMemory calm.memory))
      (complete_where_told (plan_of run.words) status run.shelf run.shelf_after run.sink run.sink_after ran)

  -- an output that ended so
  output_as : (other : Status) (files : Files) → HasOutput run files status → EndsAs run other → HasOutput run files other
  output_as other files o e = subst (HasOutput run files) (is other e) o

  called_for : (files : Files) (o : HasOutput run files status) → CalledFor status (calls_of (planned run files o.stop)) run.shelf run.shelf_after
  called_for files o = record {
    exactly = λ sink memory.
        let all = o.whole sink memory in
        o.called ∙ ap (λ (n : ℕ). option_map (raised n) run.shelf.calls) (omega (arith, all.2, ap calls_of o.split, calls_whole o.front o.rest all.0));
    within = (calls_of o.front + o.starved, o.starved_within, o.called);
  }

  fault_from : (files : Files) (o : HasOutput run files status) → Asks run (AreFaulty files) → ¬ EndsAs run ShelfFailed → ¬ EndsAs run SinkFailed → ¬ EndsAs run NoMemory → EndsAs run SourceFault
  fault_from files o faulty shelf sink memory =
      faulty_code _ (o.whole (no_other SinkFailed sink) (no_other NoMemory memory)).1 (faulty_status (command_of run.words) files o.stop faulty) shelf

  fault_of : (files : Files) (o : HasOutput run files status) → EndsAs run SourceFault → Asks run (AreFaulty files)
  fault_of files o e =
      let same = is SourceFault e in
      only_faulty (command_of run.words) files o.stop (sym (o.whole (λ h. fault_no_sink (sym same ∙ h)) (λ h. fault_no_memory (sym same ∙ h))).1 ∙ same)

  shelf_ending : (files : Files) (o : HasOutput run files status) → EndsAs run ShelfFailed → HasOutputWith (λ front all. EndsAtCall all) run files ShelfFailed
  shelf_ending files o e =
      let all = output_as ShelfFailed files o e in
      (all, ends_at_call (plan_of run.words) files all.stop (plan_reports (command_of run.words)) (sym (all.whole (λ h. cc) (λ h. cc)).1))

  sink_ending : (files : Files) (o : HasOutput run files status) → EndsAs run SinkFailed → HasOutputWith (λ front all. IsProperPrefix (bytes_of front) (bytes_of all)) run files SinkFailed
  sink_ending files o e =
      let all = output_as SinkFailed files o e in
      (all, wrote_proper_prefix (plan_of run.words) files run.shelf run.shelf_after run.sink run.sink_after all)

  memory_ending : (files : Files) (o : HasOutput run files status) → EndsAs run NoMemory → HasOutputWith (λ front all. IsPrefix (bytes_of front) (bytes_of all)) run files NoMemory
  memory_ending files o e =
      let all = output_as NoMemory files o e in
      (all, wrote_prefix (plan_of run.words) files NoMemory run.shelf run.shelf_after run.sink run.sink_after all)

  pub keeps : Keeps run
  keeps = record {
    run_by_plan = (status, coded, ran);
    output = of_output _ (λ files o. (status, coded, o));
    whole = if_told run.shelf.holds _ _ (λ files w calm. (status, coded, w calm)) whole_output;
    done = if_told run.shelf.holds _ _ (λ files w sound calm. ends Done ((w calm).status_is ∙ sound_status (command_of run.words) files sound)) whole_output;
    usage = λ none sink memory. ends Usage (usage_status (command_of run.words) status run.shelf run.shelf_after run.sink run.sink_after ran none (no_other SinkFailed sink) (no_other NoMemory memory));
    usage_only = λ e. only_usage (command_of run.words) run.shelf run.shelf_after run.sink run.sink_after (ran_as Usage e);
    fault = of_output _ fault_from;
    fault_only = of_output _ fault_of;
    too_long = λ name. too_long_cause (command_of run.words) name status run.shelf run.shelf_after run.sink run.sink_after ran;
    shelf = λ e. shelf_cause (plan_of run.words) run.shelf run.shelf_after run.sink run.sink_after (plan_reports (command_of run.words)) (ran_as ShelfFailed e);
    shelf_last = of_output _ shelf_ending;
    sink = λ e. ran.stops.cause (is SinkFailed e);
    sink_part = of_output _ sink_ending;
    memory_part = of_output _ memory_ending;
    calls = of_output _ (λ files o. (status, coded, (o, called_for files o)));
  }
