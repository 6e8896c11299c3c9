use Rattle.std.proofs.Common.{◌∙◌, map, unwrap_or, ap}
use Rattle.std.specs.List.{range_with_len}
use Rattle.downsample_view.specs.Downsampled.{kept_word}
use Rattle.downsample_view.specs.Places.{kept_slot, words_to}
use Rattle.downsample_view.proofs.Filling.{kept_word-slot}
use Rattle.downsample_view.proofs.Lists.{if_ok}
use Rattle.downsample_view.proofs.Rows.{map-map, map-same}
use Rattle.downsample_view.proofs.slots.kept_words.Goals as goal

pub returns : goal.returns
returns c =
    if_ok _ _
    (λ all e.
    e ∙ ap (map (λ slot. unwrap_or slot 0)) (c.deref.ensures.value ∙ c.in_ok-slots.ensures)
    ∙ map-map (λ slot. unwrap_or slot 0) (λ q. kept_slot c.args.method c.args.dtype (words_to q c.args.places.now c.args.words.now)) (range_with_len 0 c.args.count)
    ∙ map-same (λ q. unwrap_or (kept_slot c.args.method c.args.dtype (words_to q c.args.places.now c.args.words.now)) 0)
    (λ q. kept_word c.args.method c.args.dtype (words_to q c.args.places.now c.args.words.now)) (range_with_len 0 c.args.count)
    (λ q. kept_word-slot c.args.method c.args.dtype (words_to q c.args.places.now c.args.words.now)))
    c.shown.result c.shown.ensures
