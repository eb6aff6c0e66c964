-- What was judged is put together from what the decoder promises, by lemmas on runs.
use Rattle.std.proofs.Common.{rules, ◌≡◌, ◌<◌, ◌^◌, false, [], refl, sym, ap, subst, ◌∙◌}
use Rattle.std.proofs.lemmas.List.{append-nil}
use Rattle.std.specs.Prelude.{Ok, None}
use Rattle.rvclass.specs.Fetch.{words_of}
use Rattle.payload.specs.Closing.{is_closing_packet, is_closing_reading}
use Rattle.payload.specs.Reading.{reading}
use Rattle.losses.specs.steps.DecoderSteps.{Feeds}
use Rattle.losses.specs.steps.FollowingRuns.{FollowsRun, Refuses}
use Rattle.salvaging.specs.Entries.{next_used}
use Rattle.salvaging.specs.steps.Arrivals.{arrivals_in}
use Rattle.salvaging.specs.steps.Grouping.{entries_by}
use Rattle.salvaging.specs.steps.UnderWay.{early}
use Rattle.salvaging.proofs.TrailSteps.{early_some, feeds_run, judged_bad, judged_good, undecoded}
use Rattle.salvaging.proofs.trail.Trail.judge.Goals as goal

pub returns-in-Some : goal.returns-in-Some
returns-in-Some g c =
    let following = next_used (entries_by (arrivals_in c.args.behind.now)) in
    let p = c.in-Ok.packet in
    let read : reading c.args.payload.now ≡ Ok p =
    ap reading (sym c.bytes.ensures.same) ∙ sym c.unpack.ensures.value ∙ c.in-Ok.is in
    let is = early_some (is_closing_packet p) following c.in-Some.next (sym c.early.ensures ∙ c.in-Some.is) in
    record {
      judged = λ mode reads run next u. ((ap is_closing_reading read ∙ is.0, is.1), u);
      parts = refl;
      appended = ([], sym (append-nil c.args.self.now.events.items));
    }

pub returns-in-Err-feed_by : goal.returns-in-Err-feed_by
returns-in-Err-feed_by g c =
    let following = next_used (entries_by (arrivals_in c.args.behind.now)) in
    let words = words_of c.args.paths.program.now in
    let p = c.in-Ok.packet in
    let old = c.args.self.now in
    let read : reading c.args.payload.now ≡ Ok p =
    ap reading (sym c.bytes.ensures.same) ∙ sym c.unpack.ensures.value ∙ c.in-Ok.is in
    let late : early (is_closing_packet p) following ≡ None = sym c.early.ensures ∙ c.in-None.is in
    let fault = c.in-Err-feed_by.fault in
    let feeds : Feeds words p old.decoder c.feed_by.new.self old.events.items c.feed_by.new.log.items c.feed_by.result = record {
      stands = c.feed_by.ensures.stands;
      none = c.feed_by.ensures.none;
      announced = c.feed_by.ensures.announced;
      mode_kept = c.feed_by.ensures.mode_kept;
      passed_over = c.feed_by.ensures.passed_over;
      closes = c.feed_by.ensures.closes;
      begins = c.feed_by.ensures.begins;
      begins_none = c.feed_by.ensures.begins_none;
    } in
    let refuses : Refuses words p old.decoder old.events.items c.feed_by.result = record {
      not_opened = c.feed_by.ensures.not_opened;
      after_close = c.feed_by.ensures.after_close;
      never_unopened = c.feed_by.ensures.never_unopened;
    } in
    record {
      judged = λ mode reads run next u.
          let fed = feeds_run words mode reads run.missing run.packets p old.decoder c.feed_by.new.self old.events.items
          c.feed_by.new.log.items c.feed_by.result feeds refuses u.follows u.first_reads in
          judged_bad words mode reads run next c.args.payload.now following fault _ c.reason_of.result
          c.reason_of.ensures
          (undecoded words mode reads run next old u p c.args.payload.now following read late c.feed_by.new.self
          c.feed_by.new.log.items c.feed_by.result fed fault c.in-Err-feed_by.is)
          (record {
            follows = subst (λ d. FollowsRun words mode reads run.missing run.packets false c.feed_by.new.log.items d)
                (sym c.in-Err-feed_by.ensures.kept)
                (subst (λ e. FollowsRun words mode reads run.missing run.packets false e old.decoder)
                (sym c.in-Err-feed_by.ensures.list_kept) u.follows);
            first_reads = u.first_reads;
            next_is = u.next_is;
            looking = u.looking;
            begins = u.begins;
          });
      parts = refl;
      appended = ([], c.in-Err-feed_by.ensures.list_kept ∙ sym (append-nil old.events.items));
    }

pub overflow_add-self : goal.overflow_add-self
overflow_add-self g c = let small : c.args.self.now.next < 2 ^ 63 = c.requires in search rules

pub returns-clause-judged : goal.returns-clause-judged
returns-clause-judged g c =
    let following = next_used (entries_by (arrivals_in c.args.behind.now)) in
    let words = words_of c.args.paths.program.now in
    let p = c.in-Ok.packet in
    let old = c.args.self.now in
    let read : reading c.args.payload.now ≡ Ok p =
    ap reading (sym c.bytes.ensures.same) ∙ sym c.unpack.ensures.value ∙ c.in-Ok.is in
    let late : early (is_closing_packet p) following ≡ None = sym c.early.ensures ∙ c.in-None.is in
    let feeds : Feeds words p old.decoder c.feed_by.new.self old.events.items c.feed_by.new.log.items c.feed_by.result = record {
      stands = c.feed_by.ensures.stands;
      none = c.feed_by.ensures.none;
      announced = c.feed_by.ensures.announced;
      mode_kept = c.feed_by.ensures.mode_kept;
      passed_over = c.feed_by.ensures.passed_over;
      closes = c.feed_by.ensures.closes;
      begins = c.feed_by.ensures.begins;
      begins_none = c.feed_by.ensures.begins_none;
    } in
    let refuses : Refuses words p old.decoder old.events.items c.feed_by.result = record {
      not_opened = c.feed_by.ensures.not_opened;
      after_close = c.feed_by.ensures.after_close;
      never_unopened = c.feed_by.ensures.never_unopened;
    } in
    λ mode reads run next u.
    let fed = feeds_run words mode reads run.missing run.packets p old.decoder c.feed_by.new.self old.events.items
    c.feed_by.new.log.items c.feed_by.result feeds refuses u.follows u.first_reads in
    judged_good words mode reads run next old u p c.args.payload.now following read late c.feed_by.new.self
    c.feed_by.new.log.items c.feed_by.result fed c.in-Ok-feed_by.field-0 c.in-Ok-feed_by.is _ refl refl refl
    c.begun_by-self.ensures refl
