-- Words that are written.
use Rattle.std.specs.Prelude.{ℕ, List, replicate}
use Rattle.list_types.specs.declared.written.Held.{Held}
use Rattle.list_types.specs.declared.written.Held.TheVariants as held
use Rattle.list_types.specs.declared.written.SeenWords.{SeenWords}
use Rattle.list_types.specs.declared.written.SeenWords.TheVariants as seen

-- the words that are held, in order
abbrev pub words_held : Held → List ℕ
words_held (held.Each words) = words.items
words_held (held.One word count) = replicate count word

-- the words that are lent, in order
abbrev pub words_seen : SeenWords → List ℕ
words_seen (seen.Each words) = words.now
words_seen (seen.One word count) = replicate count word
