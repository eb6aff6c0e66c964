-- What was received and placed is a survey: by lemmas, which no tactic finds.
use Rattle.std.proofs.Common.{◌≡◌, ◌∙◌, All, [], ap, length, refl, subst, sym}
use Rattle.std.proofs.lemmas.List.{length-replicate}
use Rattle.std.proofs.lemmas.List.Elements.{All-replicate}
use Rattle.rvclass.specs.Fetch.{words_of}
use Rattle.message.proofs.Elements.{All-slice_get}
use Rattle.message.specs.Accepted.{newcomers}
use Rattle.parallel_decode.proofs.PlaceLemmas.{all_read}
use Rattle.parallel_decode.specs.steps.OwnMessages.{IsOwn}
use Rattle.parallel_decode.specs.steps.Surveying.{IsSurveyedUpTo, closed_of}
use Rattle.parallel_decode.proofs.indexing.survey_messages.Goals as goal

pub returns : goal.returns
returns g c =
    let words = words_of c.args.messages.now.program.now in
    let harts = c.args.messages.now.harts in
    let range = c.args.messages.now.range in
    let end = c.receive_all-end.result in
    let made = c.in_ok-owns.ensures.items_if_clones_equal (λ y same. same) in
    let many : length c.in_ok-owns.owns.items ≡ harts =
    ap length made ∙ length-replicate c.from-harts.result c.new.result ∙ c.from-harts.ensures in
    let bytes = c.args.messages.now.bytes.now in
    let same = ap closed_of c.as_slice-states.ensures.value in
    let survey = subst (λ closed. IsSurveyedUpTo range words harts c.args.announced bytes closed end.received end.fault)
    (sym (c.in_ok-closed.ensures ∙ same))
    (subst (λ n. IsSurveyedUpTo range words n c.args.announced bytes (closed_of c.receive_all-end.new.owns.items)
    end.received end.fault) many
    (subst (λ bytes. IsSurveyedUpTo range words (length c.in_ok-owns.owns.items) c.args.announced bytes
    (closed_of c.receive_all-end.new.owns.items) end.received end.fault) c.new-left.ensures
    c.receive_all-end.ensures.surveyed)) in
    let are = survey.decoded in
    record {
      lists = survey.lists;
      decoded = are;
      count = c.in_ok-places.ensures.harts ∙ ap length c.as_slice-states.ensures.value ∙ c.receive_all-end.ensures.harts
          ∙ many;
      placed = c.in_ok-places.ensures.places are.messages (record {
        rest = are.rest;
        ranges = are.ranges;
        read = all_read range (newcomers harts) are.messages are.accepted;
        whole = are.whole;
        counted = survey.counted;
      });
      never_memory = survey.never_memory;
    }

pub receive_all-end-requires : goal.receive_all-end-requires
receive_all-end-requires g c = λ hart own is.
    let words = words_of c.args.messages.now.program.now in
    let made = c.in_ok-owns.ensures.items_if_clones_equal (λ y same. same) in
    let one = All-slice_get (λ own. own ≡ c.new.result) c.in_ok-owns.owns.items hart own is
    (subst (All (λ own. own ≡ c.new.result)) (sym made)
    (All-replicate (λ own. own ≡ c.new.result) c.from-harts.result c.new.result refl)) in
    ([], subst (IsOwn words c.args.announced [] []) (sym one) (c.new.ensures words c.args.announced))
