use Rattle.std.proofs.Common.{◌≡◌, ap, ◌∙◌, ◌++◌, ◌∷◌, []}
use Rattle.std.specs.FinMap as finmap
use Rattle.kv_face.specs.Added.{scripts_of, left_of}
use Rattle.kv_face.specs.declared.scripts.Script.{Script}
use Rattle.kv_face.specs.MemoryStreams.{ScriptsInMemory}
use Rattle.kv_face.proofs.Added.{scripts_more, left_stays}
use Rattle.kv_face.proofs.scripts.MemoryScripts.add.Goals as goal

pub returns-clause-ok : goal.returns-clause-ok
returns-clause-ok c =
    let before = c.self.inside.scripts.items in
    let s : Script = record { name = c.wrap-name.result; bytes = c.wrap-bytes.result } in
    let name : s.name ≡ c.args.name.now = c.wrap-name.ensures ∙ c.in_ok-from_str.ensures.ok in
    let bytes : s.bytes ≡ c.args.bytes.now = c.wrap-bytes.ensures ∙ c.in_ok-from_slice.ensures.items in
    let grown : c.push.new.self.items ≡ before ++ s ∷ [] = c.in_ok-push.ensures.items in
    let view = c.self.view_is in
    λ i. record {
      scripts = (ap scripts_of grown ∙ scripts_more before s ∙ (λ j. finmap.insert (scripts_of before) (name j) (bytes j)) ∙ ap (λ (v : ScriptsInMemory). finmap.insert v.scripts c.args.name.now c.args.bytes.now) view) i;
      left = (ap (λ all. left_of all c.self.inside.reading c.self.inside.at) grown ∙ left_stays before s c.self.inside.reading c.self.inside.at c.self.invariant ∙ ap (λ (v : ScriptsInMemory). v.left) view) i;
      selects = ap (λ (v : ScriptsInMemory). v.selects) view i;
      nexts = ap (λ (v : ScriptsInMemory). v.nexts) view i;
      faults = ap (λ (v : ScriptsInMemory). v.faults) view i;
    }
