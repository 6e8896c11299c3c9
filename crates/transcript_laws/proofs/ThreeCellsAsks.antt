-- What the bytes of the script ask for, and which objects the lines of its transcript are.
use Rattle.std.proofs.Common.{◌≡◌, [], ◌∷◌, codes, true, false, Some, None, Ok, refl, ap}
use Rattle.std.specs.Str.{is_utf8, chars}
use Rattle.serde_json.specs.Data.{Data}
use Rattle.serde_json.proofs.OnLiterals.{serde_json_on_literals}
use Rattle.json_forms.specs.Bytes.{data_of}
use Rattle.json_forms.specs.Lists.{list_of}
use Rattle.json_forms.specs.Members.{least_unknown}
use Rattle.json_forms.specs.Numbers.{natural}
use Rattle.cells.specs.declared.dtype.Dtype.TheVariants.{I32}
use Rattle.line_meanings.specs.Form.{opening, reading, writing}
use Rattle.line_meanings.specs.Lines.{command_of_line, command_in, other_form}
use Rattle.line_meanings.specs.Reads.{read_form, read_members, write_form}
use Rattle.line_meanings.specs.Small.{open_form, plan_in}
use Rattle.line_meanings.specs.Parts.{steps_in}
use Rattle.line_meanings.specs.Meanings.{line_in}
use Rattle.line_meanings.specs.Openings.{leaves_of, build_of}
use Rattle.line_meanings.specs.Numbers.{values_of}
use Rattle.line_meanings.specs.declared.SpecLeaf.TheVariants as leaf
use Rattle.answer_data.specs.declared.OpenPlan.{OpenPlan}
use Rattle.answer_data.specs.declared.Tree.TheVariants as tree
use Rattle.answer_data.specs.Specs.{driver_at, node_by, node_of, inner_of}
use Rattle.answer_data.specs.Nodes.{few_leaves, leaf_node}
use Rattle.line_meanings.specs.Stored.{asked_at, own_dtype, asked_in, stored_at}
use Rattle.line_meanings.specs.Members.{transform_at, false_at, tail_at}
use Rattle.line_meanings.specs.Kvstores.{below_in, location_in, location_at}
use Rattle.line_meanings.specs.Faults as faults
use Rattle.line_meanings.specs.Asking as asking
use Rattle.line_meanings.specs.Sizes.{judged_alone, judged_beside}
use Rattle.line_meanings.specs.Zarr as zarr
use Rattle.line_meanings.specs.Wants.{want_of, named_dtype}
use Rattle.history.specs.Lines as history
use Rattle.transcript_laws.specs.Transcript.{mount, asked_by, IsToldOf, IsCut}
use Rattle.transcript_laws.specs.ThreeCells.{bytes_1, bytes_2, bytes_3, text_1, text_2, text_3, scripts, transcript}
use Rattle.transcript_laws.specs.ThreeCellsTold.{object_1, object_2, object_3, line, told_1, told_2, told_3, told_all}

abbrev pub plan : OpenPlan
plan = record { leaves = leaf.Zarr mount (codes "a") (record { shape = Some (3 ∷ []); chunks = Some (2 ∷ []); dtype = Some I32; big = Some false; fill = None; order = None; slash = None }) false true ∷ []; tree = tree.Leaf 0 None [] }

pub asks_1 : command_of_line (mount ∷ []) bytes_1 ≡ Ok (opening (codes "a") plan)
unfolding data_of serde_json_on_literals is_utf8 chars command_in open_form plan_in steps_in least_unknown driver_at node_by node_of inner_of few_leaves leaf_node asked_at own_dtype asked_in stored_at transform_at false_at tail_at below_in location_in location_at faults.at_path faults.none_before faults.none_left faults.in_turn faults.judged_in_turn asking.none_before asking.none_left asking.asked asking.in_turn asking.word_asked judged_alone judged_beside zarr.type_at zarr.zarr_dtype zarr.type_asked zarr.fill_asked zarr.rest_asked zarr.shape_asked zarr.members_asked zarr.zarr_object zarr.zarr_want want_of named_dtype
asks_1 = refl

abbrev pub values : Data
values = list_of (natural 1 ∷ natural 2 ∷ natural 3 ∷ [])

pub asks_2 : command_of_line (mount ∷ []) bytes_2 ≡ Ok (writing (codes "a") [] values)
unfolding data_of serde_json_on_literals is_utf8 chars command_in other_form write_form steps_in least_unknown
asks_2 = refl

pub asks_3 : command_of_line (mount ∷ []) bytes_3 ≡ Ok (reading (codes "a") [] None)
unfolding data_of serde_json_on_literals is_utf8 chars command_in other_form read_form read_members steps_in least_unknown
asks_3 = refl

pub asked_1 : asked_by (line 1 bytes_1) ≡ history.opening (codes "a") (leaves_of plan) (build_of plan)
asked_1 = ap line_in asks_1

pub asked_2 : asked_by (line 2 bytes_2) ≡ history.writing (codes "a") [] (values_of values)
asked_2 = ap line_in asks_2

pub asked_3 : asked_by (line 3 bytes_3) ≡ history.reading (codes "a") [] None
asked_3 = ap line_in asks_3

reads_1 : data_of text_1 ≡ Some object_1
unfolding data_of serde_json_on_literals is_utf8 chars
reads_1 = refl

reads_2 : data_of text_2 ≡ Some object_2
unfolding data_of serde_json_on_literals is_utf8 chars
reads_2 = refl

reads_3 : data_of text_3 ≡ Some object_3
unfolding data_of serde_json_on_literals is_utf8 chars
reads_3 = refl

pub told_of_1 : IsToldOf (line 1 bytes_1) told_1
told_of_1 = record { session = refl; number = refl; asked = refl; answer = record { bytes = text_1; line = refl; one_line = refl; object = record { json = reads_1; members = _; object = refl; compact = refl }; numbered = refl } }

pub told_of_2 : IsToldOf (line 2 bytes_2) told_2
told_of_2 = record { session = refl; number = refl; asked = refl; answer = record { bytes = text_2; line = refl; one_line = refl; object = record { json = reads_2; members = _; object = refl; compact = refl }; numbered = refl } }

pub told_of_3 : IsToldOf (line 3 bytes_3) told_3
told_of_3 = record { session = refl; number = refl; asked = refl; answer = record { bytes = text_3; line = refl; one_line = refl; object = record { json = reads_3; members = _; object = refl; compact = refl }; numbered = refl } }

pub is_cut : IsCut scripts transcript told_all
is_cut = record { each = (told_of_1, (told_of_2, (told_of_3, tt))); whole = refl }
