-- What the lines of the two scripts ask for, and which objects the transcript's lines are.
use Rattle.std.proofs.Common.{◌≡◌, ℕ, zero, suc, List, [], ◌∷◌, codes, true, false, Some, None, Ok, refl, sym, ap, ◌∙◌, arith}
use Rattle.std.specs.Prelude.{Contains}
use Rattle.std.specs.Str.{is_utf8, chars}
use Rattle.serde_json.specs.Data.{Data}
use Rattle.serde_json.proofs.OnLiterals.{serde_json_on_literals}
use Rattle.json_forms.specs.Bytes.{data_of}
use Rattle.json_forms.specs.Lists.{list_of}
use Rattle.json_forms.specs.Members.{least_unknown, has_exactly}
use Rattle.json_forms.specs.Numbers.{natural}
use Rattle.cells.specs.declared.dtype.Dtype.TheVariants.{I32}
use Rattle.line_meanings.specs.Form.{opening, reading, writing, beginning, committing}
use Rattle.line_meanings.specs.Lines.{command_of_line, command_in, other_form, small_form}
use Rattle.line_meanings.specs.Reads.{read_form, read_members, write_form}
use Rattle.line_meanings.specs.Small.{open_form, plan_in, flag_members, begin_form, word_form}
use Rattle.line_meanings.specs.Parts.{steps_in}
use Rattle.line_meanings.specs.Meanings.{line_in}
use Rattle.line_meanings.specs.Openings.{leaves_of, build_of}
use Rattle.line_meanings.specs.Numbers.{values_of}
use Rattle.line_meanings.specs.declared.SpecLeaf.TheVariants as leaf
use Rattle.answer_data.specs.declared.OpenPlan.{OpenPlan}
use Rattle.answer_data.specs.declared.Tree.TheVariants as tree
use Rattle.answer_data.specs.Specs.{driver_at, node_by, node_of, inner_of}
use Rattle.answer_data.specs.Nodes.{few_leaves, leaf_node}
use Rattle.line_meanings.specs.Stored.{asked_at, own_dtype, asked_in, stored_at}
use Rattle.line_meanings.specs.Members.{transform_at, false_at, tail_at}
use Rattle.line_meanings.specs.Kvstores.{below_in, location_in, location_at}
use Rattle.line_meanings.specs.Faults as faults
use Rattle.line_meanings.specs.Asking as asking
use Rattle.line_meanings.specs.Sizes.{judged_alone, judged_beside}
use Rattle.line_meanings.specs.Zarr as zarr
use Rattle.line_meanings.specs.Wants.{want_of, named_dtype}
use Rattle.history.specs.Lines as history
use Rattle.history.specs.Worked.{repeatable}
use Rattle.transcript_laws.specs.Transcript.{mount, Told, asked_by, IsToldOf, IsCut}
use Rattle.transcript_laws.specs.Unchecked.{is_unchecked_in, is_memory_answer, AreChecked}
use Rattle.transcript_laws.specs.ReadConflict.{bytes_1, bytes_2, bytes_3, bytes_4, bytes_5, bytes_6, text_1, text_2, text_3, text_4, text_5, text_6, late_4, same_4, own_4, scripts, transcript_of}
use Rattle.transcript_laws.specs.ReadConflictTold.{open_object, object_2, object_3, object_4, object_6, line, conflict_told, told_1, told_2, told_3, told_4, late_told_4, same_told_4, own_told_4, told_5, told_6, told_with}

abbrev pub making : OpenPlan
making = record { leaves = leaf.Zarr mount (codes "a") (record { shape = Some (2 ∷ []); chunks = Some (2 ∷ []); dtype = Some I32; big = Some false; fill = None; order = None; slash = None }) false true ∷ []; tree = tree.Leaf 0 None [] }

abbrev pub finding : OpenPlan
finding = record { leaves = leaf.Zarr mount (codes "a") (record { shape = None; chunks = None; dtype = None; big = None; fill = None; order = None; slash = None }) true false ∷ []; tree = tree.Leaf 0 None [] }

asks_1 : command_of_line (mount ∷ []) bytes_1 ≡ Ok (opening (codes "a") making)
unfolding data_of serde_json_on_literals is_utf8 chars command_in open_form plan_in steps_in least_unknown driver_at node_by node_of inner_of few_leaves leaf_node asked_at own_dtype asked_in stored_at transform_at false_at tail_at below_in location_in location_at faults.at_path faults.none_before faults.none_left faults.in_turn faults.judged_in_turn asking.none_before asking.none_left asking.asked asking.in_turn asking.word_asked judged_alone judged_beside zarr.type_at zarr.zarr_dtype zarr.type_asked zarr.fill_asked zarr.rest_asked zarr.shape_asked zarr.members_asked zarr.zarr_object zarr.zarr_want want_of named_dtype
asks_1 = refl

asks_2 : command_of_line (mount ∷ []) bytes_2 ≡ Ok (beginning false true)
unfolding data_of serde_json_on_literals is_utf8 chars command_in other_form small_form begin_form flag_members least_unknown
asks_2 = refl

asks_3 : command_of_line (mount ∷ []) bytes_3 ≡ Ok (reading (codes "a") [] None)
unfolding data_of serde_json_on_literals is_utf8 chars command_in other_form read_form read_members steps_in least_unknown
asks_3 = refl

asks_4 : command_of_line (mount ∷ []) bytes_4 ≡ Ok committing
unfolding data_of serde_json_on_literals is_utf8 chars command_in other_form small_form word_form least_unknown
asks_4 = refl

asks_5 : command_of_line (mount ∷ []) bytes_5 ≡ Ok (opening (codes "a") finding)
unfolding data_of serde_json_on_literals is_utf8 chars command_in open_form plan_in steps_in least_unknown driver_at node_by node_of inner_of few_leaves leaf_node asked_at own_dtype asked_in stored_at transform_at false_at tail_at below_in location_in location_at faults.at_path faults.none_before faults.none_left faults.in_turn faults.judged_in_turn asking.none_before asking.none_left asking.asked asking.in_turn asking.word_asked judged_alone judged_beside zarr.type_at zarr.zarr_dtype zarr.type_asked zarr.fill_asked zarr.rest_asked zarr.shape_asked zarr.members_asked zarr.zarr_object zarr.zarr_want want_of named_dtype
asks_5 = refl

abbrev pub values : Data
values = list_of (natural 0 ∷ natural 6 ∷ [])

asks_6 : command_of_line (mount ∷ []) bytes_6 ≡ Ok (writing (codes "a") [] values)
unfolding data_of serde_json_on_literals is_utf8 chars command_in other_form write_form steps_in least_unknown
asks_6 = refl

pub asked_1 : asked_by (line 0 1 bytes_1) ≡ history.opening (codes "a") (leaves_of making) (build_of making)
asked_1 = ap line_in asks_1

pub asked_2 : asked_by (line 0 2 bytes_2) ≡ history.beginning repeatable
asked_2 = ap line_in asks_2

pub asked_3 : asked_by (line 0 3 bytes_3) ≡ history.reading (codes "a") [] None
asked_3 = ap line_in asks_3

pub asked_4 : asked_by (line 0 4 bytes_4) ≡ history.committing
asked_4 = ap line_in asks_4

pub asked_5 : asked_by (line 1 1 bytes_5) ≡ history.opening (codes "a") (leaves_of finding) (build_of finding)
asked_5 = ap line_in asks_5

pub asked_6 : asked_by (line 1 2 bytes_6) ≡ history.writing (codes "a") [] (values_of values)
asked_6 = ap line_in asks_6

pub checked : AreChecked scripts
checked = (ap is_unchecked_in asks_1, (ap is_unchecked_in asks_2, (ap is_unchecked_in asks_3, (ap is_unchecked_in asks_4, (ap is_unchecked_in asks_5, (ap is_unchecked_in asks_6, tt))))))

reads_1 : data_of text_1 ≡ Some (open_object (natural 1 ∷ []))
unfolding data_of serde_json_on_literals is_utf8 chars
reads_1 = refl

reads_2 : data_of text_2 ≡ Some object_2
unfolding data_of serde_json_on_literals is_utf8 chars
reads_2 = refl

reads_3 : data_of text_3 ≡ Some object_3
unfolding data_of serde_json_on_literals is_utf8 chars
reads_3 = refl

reads_4 : data_of text_4 ≡ Some (object_4 2 1)
unfolding data_of serde_json_on_literals is_utf8 chars
reads_4 = refl

late_reads_4 : data_of late_4 ≡ Some (object_4 1 1)
unfolding data_of serde_json_on_literals is_utf8 chars
late_reads_4 = refl

same_reads_4 : data_of same_4 ≡ Some (object_4 2 2)
unfolding data_of serde_json_on_literals is_utf8 chars
same_reads_4 = refl

own_reads_4 : data_of own_4 ≡ Some (object_4 1 0)
unfolding data_of serde_json_on_literals is_utf8 chars
own_reads_4 = refl

reads_5 : data_of text_5 ≡ Some (open_object [])
unfolding data_of serde_json_on_literals is_utf8 chars
reads_5 = refl

reads_6 : data_of text_6 ≡ Some object_6
unfolding data_of serde_json_on_literals is_utf8 chars
reads_6 = refl

told_of_1 : IsToldOf (line 0 1 bytes_1) told_1
told_of_1 = record { session = refl; number = refl; asked = refl; answer = record { bytes = text_1; line = refl; one_line = refl; object = record { json = reads_1; members = _; object = refl; compact = refl }; numbered = refl } }

told_of_2 : IsToldOf (line 0 2 bytes_2) told_2
told_of_2 = record { session = refl; number = refl; asked = refl; answer = record { bytes = text_2; line = refl; one_line = refl; object = record { json = reads_2; members = _; object = refl; compact = refl }; numbered = refl } }

told_of_3 : IsToldOf (line 0 3 bytes_3) told_3
told_of_3 = record { session = refl; number = refl; asked = refl; answer = record { bytes = text_3; line = refl; one_line = refl; object = record { json = reads_3; members = _; object = refl; compact = refl }; numbered = refl } }

told_of_4 : IsToldOf (line 0 4 bytes_4) told_4
told_of_4 = record { session = refl; number = refl; asked = refl; answer = record { bytes = text_4; line = refl; one_line = refl; object = record { json = reads_4; members = _; object = refl; compact = refl }; numbered = refl } }

late_of_4 : IsToldOf (line 0 4 bytes_4) late_told_4
late_of_4 = record { session = refl; number = refl; asked = refl; answer = record { bytes = late_4; line = refl; one_line = refl; object = record { json = late_reads_4; members = _; object = refl; compact = refl }; numbered = refl } }

same_of_4 : IsToldOf (line 0 4 bytes_4) same_told_4
same_of_4 = record { session = refl; number = refl; asked = refl; answer = record { bytes = same_4; line = refl; one_line = refl; object = record { json = same_reads_4; members = _; object = refl; compact = refl }; numbered = refl } }

own_of_4 : IsToldOf (line 0 4 bytes_4) own_told_4
own_of_4 = record { session = refl; number = refl; asked = refl; answer = record { bytes = own_4; line = refl; one_line = refl; object = record { json = own_reads_4; members = _; object = refl; compact = refl }; numbered = refl } }

told_of_5 : IsToldOf (line 1 1 bytes_5) told_5
told_of_5 = record { session = refl; number = refl; asked = refl; answer = record { bytes = text_5; line = refl; one_line = refl; object = record { json = reads_5; members = _; object = refl; compact = refl }; numbered = refl } }

told_of_6 : IsToldOf (line 1 2 bytes_6) told_6
told_of_6 = record { session = refl; number = refl; asked = refl; answer = record { bytes = text_6; line = refl; one_line = refl; object = record { json = reads_6; members = _; object = refl; compact = refl }; numbered = refl } }

pub is_cut : IsCut scripts (transcript_of text_4) (told_with told_4)
is_cut = record { each = (told_of_1, (told_of_2, (told_of_3, (told_of_4, (told_of_5, (told_of_6, tt)))))); whole = refl }

pub late_cut : IsCut scripts (transcript_of late_4) (told_with late_told_4)
late_cut = record { each = (told_of_1, (told_of_2, (told_of_3, (late_of_4, (told_of_5, (told_of_6, tt)))))); whole = refl }

pub same_cut : IsCut scripts (transcript_of same_4) (told_with same_told_4)
same_cut = record { each = (told_of_1, (told_of_2, (told_of_3, (same_of_4, (told_of_5, (told_of_6, tt)))))); whole = refl }

pub own_cut : IsCut scripts (transcript_of own_4) (told_with own_told_4)
own_cut = record { each = (told_of_1, (told_of_2, (told_of_3, (own_of_4, (told_of_5, (told_of_6, tt)))))); whole = refl }

-- no answer is one of want of memory
memory_1 : is_memory_answer told_1.answer ≡ false
unfolding has_exactly least_unknown
memory_1 = refl

memory_2 : is_memory_answer told_2.answer ≡ false
unfolding has_exactly least_unknown
memory_2 = refl

memory_3 : is_memory_answer told_3.answer ≡ false
unfolding has_exactly least_unknown
memory_3 = refl

memory_4 : (text : List ℕ) (now read : ℕ) → is_memory_answer (conflict_told text now read).answer ≡ false
unfolding has_exactly least_unknown
memory_4 text now read = refl

memory_5 : is_memory_answer told_5.answer ≡ false
unfolding has_exactly least_unknown
memory_5 = refl

memory_6 : is_memory_answer told_6.answer ≡ false
unfolding has_exactly least_unknown
memory_6 = refl

pub no_memory : (text : List ℕ) (now read : ℕ) (t : Told) → Contains (told_with (conflict_told text now read)) t → is_memory_answer t.answer ≡ false
no_memory text now read t (zero, low, is) = ap (λ (u : Told). is_memory_answer u.answer) (sym is) ∙ memory_1
no_memory text now read t (suc zero, low, is) = ap (λ (u : Told). is_memory_answer u.answer) (sym is) ∙ memory_2
no_memory text now read t (suc (suc zero), low, is) = ap (λ (u : Told). is_memory_answer u.answer) (sym is) ∙ memory_3
no_memory text now read t (suc (suc (suc zero)), low, is) = ap (λ (u : Told). is_memory_answer u.answer) (sym is) ∙ memory_4 text now read
no_memory text now read t (suc (suc (suc (suc zero))), low, is) = ap (λ (u : Told). is_memory_answer u.answer) (sym is) ∙ memory_5
no_memory text now read t (suc (suc (suc (suc (suc zero)))), low, is) = ap (λ (u : Told). is_memory_answer u.answer) (sym is) ∙ memory_6
no_memory text now read t (suc (suc (suc (suc (suc (suc k))))), low, is) = absurd (omega (arith, low))
