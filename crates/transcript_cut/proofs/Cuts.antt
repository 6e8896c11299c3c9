-- Cutting a transcript line by line.
use Rattle.std.proofs.Common.{◌≡◌, Option, ◌<◌, ◌≤◌, ℕ, ◌+◌, ◌-◌, List, [], ◌∷◌, ◌++◌, false, true, length, take, drop, refl, sym, ap, subst, ◌∙◌, ◌⊎◌, inl, inr, arith, append_assoc, append-nil, length-drop}
use Rattle.std.proofs.lemmas.List.{take-append-drop, drop-drop, drop_all, map-append}
use Rattle.std.specs.List.{AllByRecursion, flat_map}
use Rattle.serde_json.specs.Data.{Data}
use Rattle.transcript_cut.specs.declared.said.KeptAnswer.{KeptAnswer}
use Rattle.json_forms.specs.Bytes.{data_of}
use Rattle.transcript_laws.proofs.Laws.{some_inj}
use Rattle.transcript_laws.specs.AnswerLines.{has_lf}
use Rattle.transcript_laws.specs.Transcript.{ScriptLine, Told, asked_by, lines_of_scripts, IsToldOf, AreToldOf}
use Rattle.transcript_laws.specs.Unchecked.{is_memory_answer, IsMemoryAnswer}
use Rattle.transcript_laws.proofs.Laws.{cut_once, one_answer, regroup}
use Rattle.transcript_cut.specs.Spans.{line_at, IsPlaced}
use Rattle.transcript_cut.specs.Fronts.{BeginsWithAnswer, BeginsWithMemory, BeginsOtherwise}
use Rattle.transcript_cut.specs.Said.{IsSaid, AreSaid}
use Rattle.transcript_cut.specs.Cuttings.{lines_kept, IsWholeCut, IsBroken, IsCutOffAt, IsKeptAnswer}
use Rattle.transcript_cut.specs.declared.numbers.EventNumbers.{EventNumbers}
use Rattle.transcript_cut.specs.declared.said.AskedLine.{AskedLine}
use Rattle.transcript_cut.specs.declared.said.Said.{Said}

abbrev texts : List Told → List ℕ
texts told = flat_map (λ (t : Told). t.text) told

abbrev IsPlainTold : Told → Type 0
IsPlainTold t = is_memory_answer t.answer ≡ false

-- one more at the end
texts_more : (told : List Told) (t : Told) → texts (told ++ t ∷ []) ≡ texts told ++ t.text
texts_more [] t = append-nil t.text
texts_more (u ∷ told) t = ap (λ rest. u.text ++ rest) (texts_more told t) ∙ sym (append_assoc u.text (texts told) t.text)

told_more : (earlier : List ScriptLine) (told : List Told) (line : ScriptLine) (t : Told) → AreToldOf earlier told → IsToldOf line t → AreToldOf (earlier ++ line ∷ []) (told ++ t ∷ [])
told_more [] [] line t are is = (is, tt)
told_more [] (u ∷ told) line t are is = absurd are
told_more (l ∷ earlier) [] line t are is = absurd are
told_more (l ∷ earlier) (u ∷ told) line t are is = (are.0, told_more earlier told line t are.1 is)

plain_more : (told : List Told) (t : Told) → AllByRecursion IsPlainTold told → IsPlainTold t → AllByRecursion IsPlainTold (told ++ t ∷ [])
plain_more [] t all is = (is, tt)
plain_more (u ∷ told) t all is = (all.0, plain_more told t all.1 is)

-- what stands for a line at the front of a text
record IsFrontTold (line : ScriptLine) (text : List ℕ) : Type 0 where
  told : Told
  more : List ℕ
  is : IsToldOf line told
  parts : text ≡ told.text ++ more

-- an answer that isn't want of memory, where one that is stands
clash : (line : ScriptLine) (t : Told) (bytes ys rest : List ℕ) → IsToldOf line t → has_lf bytes ≡ false → IsMemoryAnswer bytes → IsPlainTold t → t.text ++ ys ≡ bytes ++ 10 ∷ rest → ⊥
clash line t bytes ys rest is none memory isnt same =
    let s = cut_once is.answer.bytes ys bytes rest is.answer.one_line none (sym (regroup is.answer.bytes t.text ys is.answer.line) ∙ same) in
    let answer : t.answer ≡ memory.answer = some_inj t.answer memory.answer (sym is.answer.object.json ∙ ap data_of s.front ∙ memory.json) in
    let both : false ≡ true = sym isnt ∙ ap is_memory_answer answer ∙ memory.memory in
    cc

next_texts : (u : Told) (told : List Told) (xs rest : List ℕ) → xs ≡ texts (u ∷ told) ++ rest → xs ≡ u.text ++ (texts told ++ rest)
next_texts u told xs rest is = is ∙ append_assoc u.text (texts told) rest

-- behind the first lines the next one has its answer at the front of the rest
front_told : (earlier left : List ScriptLine) (line : ScriptLine) (all told : List Told) (rest : List ℕ) → AreToldOf (earlier ++ line ∷ left) all → AreToldOf earlier told → texts all ≡ texts told ++ rest → IsFrontTold line rest
front_told [] left line [] told rest is are same = absurd is
front_told [] left line (t ∷ all) [] rest is are same = record { told = t; more = texts all; is = is.0; parts = sym same }
front_told [] left line (t ∷ all) (u ∷ told) rest is are same = absurd are
front_told (l ∷ earlier) left line [] told rest is are same = absurd is
front_told (l ∷ earlier) left line (t ∷ all) [] rest is are same = absurd are
front_told (l ∷ earlier) left line (t ∷ all) (u ∷ told) rest is are same =
    let one = one_answer l.number l.number t.text u.text t.answer u.answer (texts all) (texts told ++ rest) is.0.answer are.0.answer (next_texts u told (texts (t ∷ all)) rest same) in
    front_told earlier left line all told rest is.1 are.1 one.rest

-- behind all lines nothing is left
rest_none : (lines : List ScriptLine) (all told : List Told) (rest : List ℕ) → AreToldOf lines all → AreToldOf lines told → texts all ≡ texts told ++ rest → rest ≡ []
rest_none [] [] [] rest is are same = sym same
rest_none [] [] (u ∷ told) rest is are same = absurd are
rest_none [] (t ∷ all) told rest is are same = absurd is
rest_none (l ∷ lines) [] told rest is are same = absurd is
rest_none (l ∷ lines) (t ∷ all) [] rest is are same = absurd are
rest_none (l ∷ lines) (t ∷ all) (u ∷ told) rest is are same =
    let one = one_answer l.number l.number t.text u.text t.answer u.answer (texts all) (texts told ++ rest) is.0.answer are.0.answer (next_texts u told (texts (t ∷ all)) rest same) in
    rest_none lines all told rest is.1 are.1 one.rest

-- where answers are cut off, it isn't within the first lines, whose answers are no want of memory
off_inside : (earlier others later : List ScriptLine) (line : ScriptLine) (told other : List Told) (bytes rest more : List ℕ) → earlier ≡ others ++ line ∷ later → AreToldOf earlier told → AreToldOf others other → AllByRecursion IsPlainTold told
    → has_lf bytes ≡ false → IsMemoryAnswer bytes → texts told ++ rest ≡ texts other ++ (bytes ++ 10 ∷ more) → ⊥
off_inside [] [] later line told other bytes rest more lines is are plain none memory same = absurd (let no : ⊥ = cc in no)
off_inside [] (c ∷ others) later line told other bytes rest more lines is are plain none memory same = absurd (let no : ⊥ = cc in no)
off_inside (l ∷ earlier) others later line [] other bytes rest more lines is are plain none memory same = absurd is
off_inside (l ∷ earlier) [] later line (t ∷ told) [] bytes rest more lines is are plain none memory same =
    clash l t bytes (texts told ++ rest) more is.0 none memory plain.0 (sym (append_assoc t.text (texts told) rest) ∙ same)
off_inside (l ∷ earlier) [] later line (t ∷ told) (u ∷ other) bytes rest more lines is are plain none memory same = absurd are
off_inside (l ∷ earlier) (c ∷ others) later line (t ∷ told) [] bytes rest more lines is are plain none memory same = absurd are
off_inside (l ∷ earlier) (c ∷ others) later line (t ∷ told) (u ∷ other) bytes rest more lines is are plain none memory same =
    let next : earlier ≡ others ++ line ∷ later = cc in
    let parts : t.text ++ (texts told ++ rest) ≡ u.text ++ (texts other ++ (bytes ++ 10 ∷ more)) = sym (append_assoc t.text (texts told) rest) ∙ same ∙ append_assoc u.text (texts other) (bytes ++ 10 ∷ more) in
    let one = one_answer l.number c.number t.text u.text t.answer u.answer (texts told ++ rest) (texts other ++ (bytes ++ 10 ∷ more)) is.0.answer are.0.answer parts in
    off_inside earlier others later line told other bytes rest more next is.1 are.1 plain.1 none memory one.rest

-- so the line behind them has its answer at the front of the rest, or that is want of memory
off_behind : (earlier left others later : List ScriptLine) (line off : ScriptLine) (told other : List Told) (bytes rest more : List ℕ) → earlier ++ line ∷ left ≡ others ++ off ∷ later → AreToldOf earlier told → AreToldOf others other
    → AllByRecursion IsPlainTold told → has_lf bytes ≡ false → IsMemoryAnswer bytes → texts told ++ rest ≡ texts other ++ (bytes ++ 10 ∷ more) → IsFrontTold line rest ⊎ BeginsWithMemory rest
off_behind [] left [] later line off [] [] bytes rest more lines is are plain none memory same = inr (record { bytes = bytes; rest = more; parts = same; one_line = none; memory = memory })
off_behind [] left [] later line off [] (u ∷ other) bytes rest more lines is are plain none memory same = absurd are
off_behind [] left (c ∷ others) later line off [] [] bytes rest more lines is are plain none memory same = absurd are
off_behind [] left (c ∷ others) later line off [] (u ∷ other) bytes rest more lines is are plain none memory same =
    let first : c ≡ line = cc in
    inl (record { told = u; more = texts other ++ (bytes ++ 10 ∷ more); is = subst (λ l. IsToldOf l u) first are.0; parts = same ∙ append_assoc u.text (texts other) (bytes ++ 10 ∷ more) })
off_behind [] left others later line off (t ∷ told) other bytes rest more lines is are plain none memory same = absurd is
off_behind (l ∷ earlier) left others later line off [] other bytes rest more lines is are plain none memory same = absurd is
off_behind (l ∷ earlier) left [] later line off (t ∷ told) [] bytes rest more lines is are plain none memory same =
    absurd (clash l t bytes (texts told ++ rest) more is.0 none memory plain.0 (sym (append_assoc t.text (texts told) rest) ∙ same))
off_behind (l ∷ earlier) left [] later line off (t ∷ told) (u ∷ other) bytes rest more lines is are plain none memory same = absurd are
off_behind (l ∷ earlier) left (c ∷ others) later line off (t ∷ told) [] bytes rest more lines is are plain none memory same = absurd are
off_behind (l ∷ earlier) left (c ∷ others) later line off (t ∷ told) (u ∷ other) bytes rest more lines is are plain none memory same =
    let next : earlier ++ line ∷ left ≡ others ++ off ∷ later = cc in
    let parts : t.text ++ (texts told ++ rest) ≡ u.text ++ (texts other ++ (bytes ++ 10 ∷ more)) = sym (append_assoc t.text (texts told) rest) ∙ same ∙ append_assoc u.text (texts other) (bytes ++ 10 ∷ more) in
    let one = one_answer l.number c.number t.text u.text t.answer u.answer (texts told ++ rest) (texts other ++ (bytes ++ 10 ∷ more)) is.0.answer are.0.answer parts in
    off_behind earlier left others later line off told other bytes rest more next is.1 are.1 plain.1 none memory one.rest

module _ (scripts : List (List ℕ)) (transcript : List ℕ) where
  said_more : (said : List Said) (told : List Told) (s : Said) (t : Told) → AreSaid scripts transcript said told → IsSaid scripts transcript s t → AreSaid scripts transcript (said ++ s ∷ []) (told ++ t ∷ [])
  said_more [] [] s t are is = (is, tt)
  said_more [] (u ∷ told) s t are is = absurd are
  said_more (r ∷ said) [] s t are is = absurd are
  said_more (r ∷ said) (u ∷ told) s t are is = (are.0, said_more said told s t are.1 is)

  -- the first lines have their answers, up to a byte, none of them want of memory; this is kept of them, and these lines are left
  pub record IsCutUpTo (kept : List Said) (left : List ScriptLine) (at : ℕ) : Type 0 where
    pub earlier : List ScriptLine
    pub told : List Told
    pub parts : lines_of_scripts 0 scripts ≡ earlier ++ left
    pub each : AreToldOf earlier told
    pub plain : AllByRecursion IsPlainTold told
    pub text : transcript ≡ texts told ++ drop at transcript
    pub said : AreSaid scripts transcript kept told
    pub lines : lines_kept scripts kept ≡ earlier
    pub within : at ≤ length transcript

  pub at_start : (kept : List Said) (left : List ScriptLine) → kept ≡ [] → lines_of_scripts 0 scripts ≡ left → IsCutUpTo kept left 0
  at_start kept left none is = record {
    earlier = [];
    told = [];
    parts = is;
    each = tt;
    plain = tt;
    text = refl;
    said = subst (λ k. AreSaid scripts transcript k []) (sym none) tt;
    lines = ap (lines_kept scripts) none;
    within = omega arith;
  }

  -- what is told of a line with an answer, and what is kept of it
  abbrev next_told : AskedLine → ℕ → ℕ → Data → Told
  next_told line at size answer = record { session = line.session; number = line.number; asked = asked_by (line_at scripts line); text = take size (drop at transcript); answer = answer }

  abbrev kept_said : AskedLine → ℕ → ℕ → EventNumbers → Option KeptAnswer → Said
  kept_said line at size numbers answer = record { line = line; text = record { from = at; upto = at + size }; numbers = numbers; answer = answer }

  -- a line with an answer
  pub one_more : (said : List Said) (left more : List ScriptLine) (line : AskedLine) (at size : ℕ) (numbers : EventNumbers) (answer : Option KeptAnswer) → IsCutUpTo said left at → left ≡ line_at scripts line ∷ more → IsPlaced scripts line
      → BeginsWithAnswer (drop at transcript) line.number size numbers answer
      → IsCutUpTo (said ++ record { line = line; text = record { from = at; upto = at + size }; numbers = numbers; answer = answer } ∷ []) more (at + size)
  one_more said left more line at size numbers answer is lefts placed begins = record {
    earlier = is.earlier ++ line_at scripts line ∷ [];
    told = is.told ++ next_told line at size begins.answer ∷ [];
    parts = is.parts ∙ ap (λ ls. is.earlier ++ ls) lefts ∙ sym (append_assoc is.earlier (line_at scripts line ∷ []) more);
    each = told_more is.earlier is.told (line_at scripts line) (next_told line at size begins.answer) is.each (record { session = refl; number = refl; asked = refl; answer = begins.is });
    plain = plain_more is.told (next_told line at size begins.answer) is.plain begins.plain;
    text = is.text ∙ ap (λ rest. texts is.told ++ rest) (sym (take-append-drop size (drop at transcript)) ∙ ap (λ rest. take size (drop at transcript) ++ rest) (drop-drop size at transcript))
        ∙ sym (append_assoc (texts is.told) (take size (drop at transcript)) (drop (at + size) transcript)) ∙ ap (λ front. front ++ drop (at + size) transcript) (sym (texts_more is.told (next_told line at size begins.answer)));
    said = said_more said is.told (kept_said line at size numbers answer) (next_told line at size begins.answer) is.said (record {
      placed = placed;
      session = refl;
      number = refl;
      asked = refl;
      within = record { order = omega arith; within = within };
      text = ap (λ n. take n (drop at transcript)) sized;
      prints = begins.prints;
      keeps = begins.keeps;
    });
    lines = map-append (λ (s : Said). line_at scripts s.line) said (kept_said line at size numbers answer ∷ []) ∙ ap (λ ls. ls ++ line_at scripts line ∷ []) is.lines;
    within = within;
  }
    where
      within : at + size ≤ length transcript
      within = omega (arith, begins.within, is.within, length-drop at transcript)

      sized : size ≡ (at + size) - at
      sized = omega arith

  -- the same, by what was found at the front of the rest
  pub found_more : (old new : List Said) (left more : List ScriptLine) (line : AskedLine) (at size : ℕ) (rest : List ℕ) → IsCutUpTo old left at → left ≡ line_at scripts line ∷ more → IsPlaced scripts line
      → rest ≡ drop at transcript → IsKeptAnswer rest line at size old new → IsCutUpTo new more (at + size)
  found_more old new left more line at size rest is lefts placed here found =
      subst (λ k. IsCutUpTo k more (at + size)) (sym found.kept) (one_more old left more line at size found.numbers found.answer is lefts placed (subst (λ t. BeginsWithAnswer t line.number size found.numbers found.answer) here found.begins))

  pub cut_off_here : (said : List Said) (left more : List ScriptLine) (line : AskedLine) (at : ℕ) → IsCutUpTo said left at → left ≡ line_at scripts line ∷ more → IsPlaced scripts line → BeginsWithMemory (drop at transcript) → IsCutOffAt scripts transcript line
  cut_off_here said left more line at is lefts placed begins = record {
    placed = placed;
    cut_off = record {
      earlier = is.earlier;
      later = more;
      lines = is.parts ∙ ap (λ ls. is.earlier ++ ls) lefts;
      told = is.told;
      each = is.each;
      none = is.plain;
      bytes = begins.bytes;
      one_line = begins.one_line;
      memory = begins.memory;
      rest = begins.rest;
      parts = is.text ∙ ap (λ rest. texts is.told ++ rest) begins.parts;
    };
  }

  pub broken_here : (said : List Said) (left more : List ScriptLine) (line : AskedLine) (at : ℕ) → IsCutUpTo said left at → left ≡ line_at scripts line ∷ more → BeginsOtherwise (drop at transcript) line.number → IsBroken scripts transcript
  broken_here said left more line at is lefts begins = record {
    fails = λ all cut. not_told (front_told is.earlier more (line_at scripts line) all is.told (drop at transcript) (subst (λ ls. AreToldOf ls all) lines cut.each) is.each (sym cut.whole ∙ is.text));
    whole = λ off cut_off. not_off (off_behind is.earlier more cut_off.earlier cut_off.later (line_at scripts line) off is.told cut_off.told cut_off.bytes (drop at transcript) cut_off.rest (sym lines ∙ cut_off.lines) is.each cut_off.each is.plain cut_off.one_line cut_off.memory (sym is.text ∙ cut_off.parts));
  }
    where
      lines : lines_of_scripts 0 scripts ≡ is.earlier ++ line_at scripts line ∷ more
      lines = is.parts ∙ ap (λ ls. is.earlier ++ ls) lefts

      not_told : IsFrontTold (line_at scripts line) (drop at transcript) → ⊥
      not_told front = begins.no_answer front.told.text front.more front.told.answer front.is.answer front.parts

      not_off : IsFrontTold (line_at scripts line) (drop at transcript) ⊎ BeginsWithMemory (drop at transcript) → ⊥
      not_off (inl front) = not_told front
      not_off (inr memory) = begins.no_memory memory

  pub broken_behind : (said : List Said) (left : List ScriptLine) (at : ℕ) → IsCutUpTo said left at → left ≡ [] → at < length transcript → IsBroken scripts transcript
  broken_behind said left at is lefts low = record {
    fails = λ all cut. some_rest (rest_none is.earlier all is.told (drop at transcript) (subst (λ ls. AreToldOf ls all) lines cut.each) is.each (sym cut.whole ∙ is.text));
    whole = λ off cut_off. off_inside is.earlier cut_off.earlier cut_off.later off is.told cut_off.told cut_off.bytes (drop at transcript) cut_off.rest (sym lines ∙ cut_off.lines) is.each cut_off.each is.plain cut_off.one_line cut_off.memory (sym is.text ∙ cut_off.parts);
  }
    where
      lines : lines_of_scripts 0 scripts ≡ is.earlier
      lines = is.parts ∙ ap (λ ls. is.earlier ++ ls) lefts ∙ append-nil is.earlier

      some_rest : drop at transcript ≡ [] → ⊥
      some_rest none = omega (arith, low, length-drop at transcript, ap length none)

  pub whole_here : (said : List Said) (left : List ScriptLine) (at : ℕ) → IsCutUpTo said left at → left ≡ [] → length transcript ≤ at → IsWholeCut scripts transcript said
  whole_here said left at is lefts past = record {
    told = is.told;
    cut = record {
      each = subst (λ ls. AreToldOf ls is.told) (sym (is.parts ∙ ap (λ ls. is.earlier ++ ls) lefts ∙ append-nil is.earlier)) is.each;
      whole = is.text ∙ ap (λ rest. texts is.told ++ rest) (drop_all at transcript past) ∙ append-nil (texts is.told);
    };
    said = is.said;
    lines = is.lines ∙ sym (is.parts ∙ ap (λ ls. is.earlier ++ ls) lefts ∙ append-nil is.earlier);
    plain = is.plain;
  }
