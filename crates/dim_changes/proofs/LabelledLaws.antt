-- A transform with other labels.
use Rattle.std.proofs.Common.{◌≡◌, ◌∙◌, ℕ, Bool, true, false, List, length, map, refl, ap, Ok, Err, IsTrue, if◌then◌else◌}
use Rattle.std.specs.List.{list_all, range_with_len}
use Rattle.std.proofs.lemmas.List.FromFn.{length-map-range_with_len}
use Rattle.index_intervals.specs.Bounds.{Bounds}
use Rattle.transform_composition.specs.declared.Domain.{Domain}
use Rattle.transform_composition.specs.declared.OutMap.{OutMap}
use Rattle.transform_composition.specs.declared.TransformError.{TransformError}
use Rattle.transform_composition.specs.declared.TransformError.TheVariants.{BadLabel}
use Rattle.transform_composition.specs.Maps.{has_ranks, is_map, is_plain, are_labels}
use Rattle.transform_composition.specs.Transforms.{DomainAndMaps, IsTransform, checked}
use Rattle.dim_changes.specs.Marks.{only_labels}
use Rattle.dim_changes.specs.declared.cause.Cause.TheVariants.{Label}
use Rattle.dim_changes.proofs.StepLemmas.{checked-IsTransform}

checked_labels : (domain : Domain) (maps : List OutMap) (b : Bool) → are_labels domain.labels ≡ b → IsTrue (has_ranks domain maps) → IsTrue (list_all (is_map domain.dims) maps) → IsTrue (list_all is_plain maps)
    → checked domain maps ≡ (if b then Ok (record { domain = domain; maps = maps }) else Err BadLabel)
checked_labels domain maps true e ranks fit plain = checked-IsTransform domain maps (record { ranks = ranks; labels = e; maps = fit; plain = plain })
checked_labels domain maps false e ranks fit plain = rw (ranks, e) refl

pub relabelled_Ok : (domain : Domain) (maps : List OutMap) (t : DomainAndMaps) → IsTrue (has_ranks domain maps) → IsTrue (list_all (is_map domain.dims) maps) → IsTrue (list_all is_plain maps)
    → Ok t ≡ checked domain maps → only_labels (record { domain = domain; maps = maps }) ≡ Ok t
relabelled_Ok domain maps t ranks fit plain is = told (are_labels domain.labels) refl
  where
    told : (b : Bool) → are_labels domain.labels ≡ b → only_labels (record { domain = domain; maps = maps }) ≡ Ok t
    told true e = let f = is ∙ checked_labels domain maps true e ranks fit plain in let g : record { domain = domain; maps = maps } ≡ t = cc in rw e (ap Ok g)
    told false e = let f = is ∙ checked_labels domain maps false e ranks fit plain in cc

pub relabelled_Err : (domain : Domain) (maps : List OutMap) (e : TransformError) → IsTrue (has_ranks domain maps) → IsTrue (list_all (is_map domain.dims) maps) → IsTrue (list_all is_plain maps)
    → Err e ≡ checked domain maps → only_labels (record { domain = domain; maps = maps }) ≡ Err Label
relabelled_Err domain maps e ranks fit plain is = told (are_labels domain.labels) refl
  where
    told : (b : Bool) → are_labels domain.labels ≡ b → only_labels (record { domain = domain; maps = maps }) ≡ Err Label
    told true f = let g = is ∙ checked_labels domain maps true f ranks fit plain in cc
    told false f = rw f refl

-- as many labels as dimensions keep the ranks
pub ranks_same : (u : DomainAndMaps) (dims : List Bounds) (labels : List (List ℕ)) (maps : List OutMap) → IsTransform u → dims ≡ u.domain.dims → length labels ≡ length u.domain.labels → maps ≡ u.maps
    → IsTrue (has_ranks (record { dims = dims; labels = labels }) maps)
ranks_same u dims labels maps t same count also = let r = t.ranks in rw (same, count, also) r

pub length_new : (f : ℕ → List ℕ) (n : ℕ) → length (map f (range_with_len 0 n)) ≡ n
length_new f n = length-map-range_with_len f 0 n
