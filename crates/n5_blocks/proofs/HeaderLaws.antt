-- A header and the numbers in it.
use Rattle.std.proofs.Common.{◌≡◌, ℕ, zero, suc, ◌+◌, ◌*◌, ◌<◌, ◌≤◌, List, [], ◌∷◌, ◌++◌, length, get_or, take, drop, true, refl, sym, ap, ◌∙◌, arith, zero-add, append-nil}
use Rattle.std.specs.List.{flat_map}
use Rattle.std.proofs.Math.Seq.{take-add}
use Rattle.std.proofs.lemmas.Grind.{flat_map-append}
use Rattle.std.proofs.lemmas.List.{drop-drop, take-append-drop}
use Rattle.std.proofs.lemmas.List.FromFn.{map-range_with_len_more}
use Rattle.chunk_elements.specs.Bytes.{word_bytes}
use Rattle.chunk_elements.specs.declared.Dtype.TheVariants.{U16, U32}
use Rattle.chunk_elements.proofs.Laws.{bytes_of_part}
use Rattle.n5_blocks.specs.Block.{header}
use Rattle.n5_blocks.specs.Faults.{mode_in, rank_in, header_len, size_in, sizes_in}

-- the bytes of the sizes of a header
size_bytes : (bytes : List ℕ) → ((i : ℕ) → get_or bytes i 0 < 256) → (rank : ℕ) → header_len rank ≤ length bytes → flat_map (word_bytes U32 true) (sizes_in rank bytes) ≡ take (4 * rank) (drop 4 bytes)
size_bytes bytes small zero fits = refl
size_bytes bytes small (suc rank) fits =
    let up : suc rank ≡ rank + 1 = omega arith in
    let less : header_len rank ≤ length bytes = omega arith in
    let along : 4 * suc rank ≡ 4 * rank + 4 = omega arith in
    let one = bytes_of_part U32 true bytes (header_len rank) small (omega arith) in
    ap (λ n. flat_map (word_bytes U32 true) (sizes_in n bytes)) up
    ∙ ap (flat_map (word_bytes U32 true)) (map-range_with_len_more (size_in bytes) 0 rank rank (zero-add rank))
    ∙ flat_map-append (word_bytes U32 true) (sizes_in rank bytes) (size_in bytes rank ∷ [])
    ∙ ap (λ l. flat_map (word_bytes U32 true) (sizes_in rank bytes) ++ l) (append-nil (word_bytes U32 true (size_in bytes rank)) ∙ one)
    ∙ ap (λ l. l ++ take 4 (drop (header_len rank) bytes)) (size_bytes bytes small rank less)
    ∙ sym (ap (λ n. take n (drop 4 bytes)) along ∙ take-add (4 * rank) 4 (drop 4 bytes) ∙ ap (λ l. take (4 * rank) (drop 4 bytes) ++ take 4 l) (drop-drop (4 * rank) 4 bytes))

-- bytes with the mode 0 and a rank are a header of their sizes, and what follows it
pub bytes-header : (bytes : List ℕ) (rank : ℕ) → ((i : ℕ) → get_or bytes i 0 < 256) → header_len rank ≤ length bytes → mode_in bytes ≡ 0 → rank_in bytes ≡ rank
    → length (sizes_in rank bytes) ≡ rank → bytes ≡ header (sizes_in rank bytes) ++ drop (header_len rank) bytes
bytes-header bytes rank small fits mode is ranks =
    let first : take 2 bytes ≡ word_bytes U16 true 0 = sym (bytes_of_part U16 true bytes 0 small (omega arith)) ∙ ap (word_bytes U16 true) mode in
    let second : take 2 (drop 2 bytes) ≡ word_bytes U16 true (length (sizes_in rank bytes)) = sym (bytes_of_part U16 true bytes 2 small (omega arith)) ∙ ap (word_bytes U16 true) (is ∙ sym ranks) in
    let third : take (4 * rank) (drop 4 bytes) ≡ flat_map (word_bytes U32 true) (sizes_in rank bytes) = sym (size_bytes bytes small rank fits) in
    let front : take (2 + 2 + 4 * rank) bytes ≡ header (sizes_in rank bytes) =
    take-add (2 + 2) (4 * rank) bytes
    ∙ ap (λ l. l ++ take (4 * rank) (drop 4 bytes)) (take-add 2 2 bytes)
    ∙ ap (λ l. (l ++ take 2 (drop 2 bytes)) ++ take (4 * rank) (drop 4 bytes)) first
    ∙ ap (λ l. (word_bytes U16 true 0 ++ l) ++ take (4 * rank) (drop 4 bytes)) second
    ∙ ap (λ l. (word_bytes U16 true 0 ++ word_bytes U16 true (length (sizes_in rank bytes))) ++ l) third in
    sym (take-append-drop (header_len rank) bytes) ∙ ap (λ l. l ++ drop (header_len rank) bytes) front
