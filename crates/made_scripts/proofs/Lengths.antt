-- No script that is made is long.
use Rattle.std.proofs.Common.{◌≡◌, ◌≤◌, ◌<◌, ◌+◌, ◌*◌, ◌^◌, ℕ, zero, suc, Bool, true, false, cond, List, ◌++◌, [], length, ap, subst, arith}
use Rattle.std.specs.Prelude.{All, codes, decimal, nat_lt}
use Rattle.std.proofs.Math.Nat.{suc-mul}
use Rattle.std.proofs.lemmas.Fmt.{length-decimal-le}
use Rattle.std.proofs.lemmas.List.{length-append}
use Rattle.std.proofs.lemmas.List.Elements.{All-from_recursion}
use Rattle.made_scripts.specs.Texts.{parts, comma_before, list_of}
use Rattle.made_scripts.specs.Scripts.{number_at, row_text, rows_text, write_rows, write_block, shared_script, open_own, write_own, read_part, write_part, own_block, own_script, open_again, read_again, reading_script, made}
use Rattle.made_scripts.proofs.Loops.{parts_none, parts_more}

-- parts of so many bytes at most
parts_short : (part : ℕ → List ℕ) (most n : ℕ) → ((k : ℕ) → k < n → length (part k) ≤ most) → length (parts n part) ≤ n * most
parts_short part most zero each = let none = ap length (parts_none part) in omega (arith, none)
parts_short part most (suc n) each =
    let rest = parts_short part most n (λ k low. each k (omega (arith, low))) in
    let last = each n (omega arith) in
    let one : n + 1 ≡ suc n = omega arith in
    let more : length (parts (suc n) part) ≡ length (parts n part ++ part n) = subst (λ m. length (parts m part) ≡ length (parts n part ++ part n)) one (ap length (parts_more part n)) in
    let sum = length-append (parts n part) (part n) in
    let times = suc-mul n most in
    omega (arith, rest, last, more, sum, times)

comma_short : (k : ℕ) → length (comma_before k) ≤ 1
comma_short k = by (nat_lt 0 k)
  where
    by : (b : Bool) → length (cond b (codes ",") []) ≤ 1
    by true = omega arith
    by false = omega arith

-- a list of so many parts
list_short : (part : ℕ → List ℕ) (most n : ℕ) → ((k : ℕ) → k < n → length (part k) ≤ most) → length (list_of n part) ≤ n * (most + 1) + 2
list_short part most n each =
    let all = parts_short (λ k. comma_before k ++ part k) (most + 1) n (λ k low. let one = comma_short k in let two = each k low in let sum = length-append (comma_before k) (part k) in omega (arith, one, two, sum)) in
    let front = length-append (codes "[") (parts n (λ k. comma_before k ++ part k) ++ codes "]") in
    let back = length-append (parts n (λ k. comma_before k ++ part k)) (codes "]") in
    omega (arith, all, front, back)

number_short : (number place : ℕ) → length (decimal (number_at number place)) ≤ 4
number_short number place = length-decimal-le 4 (number_at number place) (omega arith) (omega arith) (omega arith)

row_short : (number from : ℕ) → length (row_text number from) ≤ 5002
unfolding row_text
row_short number from = let all = list_short (λ k. decimal (number_at number (from + k))) 4 1000 (λ k low. number_short number (from + k)) in omega (arith, all)

rows_short : (number first : ℕ) → length (rows_text number first) ≤ 125077
unfolding rows_text
rows_short number first = let all = list_short (λ k. row_text number (1000 * (first + 4 * k))) 5002 25 (λ k low. row_short number (1000 * (first + 4 * k))) in omega (arith, all)

block_short : (number session block : ℕ) → session < 10 → block < 10 → length (write_block number session block) ≤ 126000
unfolding write_block write_rows
block_short number session block one two =
    let rows = rows_short number (100 * block + session) in
    let first = length-decimal-le 4 (100 * block + session) (omega arith) (omega (arith, one, two)) (omega (arith, one, two)) in
    let end = length-decimal-le 4 (100 * block + 100) (omega arith) (omega (arith, two)) (omega (arith, two)) in
    grind (arith, length-append, rows, first, end)

shared_short : (number session : ℕ) → session < 10 → length (shared_script number session) ≤ 2 ^ 26
unfolding shared_script
shared_short number session one =
    let all = parts_short (write_block number session) 126000 10 (λ k low. block_short number session k one low) in
    grind (arith, length-append, all)

own_block_short : (block : ℕ) → block < 10 → length (own_block block) ≤ 1000
unfolding own_block read_part write_part
own_block_short block two =
    let first = length-decimal-le 4 (100 * block) (omega arith) (omega (arith, two)) (omega (arith, two)) in
    let end = length-decimal-le 4 (100 * block + 100) (omega arith) (omega (arith, two)) (omega (arith, two)) in
    let value = length-decimal-le 4 block (omega arith) (omega (arith, two)) (omega (arith, two)) in
    grind (arith, length-append, first, end, value)

own_short : (number session : ℕ) → session < 10 → length (own_script number session) ≤ 2 ^ 26
unfolding own_script open_own write_own
own_short number session one =
    let name = length-decimal-le 4 session (omega arith) (omega (arith, one)) (omega (arith, one)) in
    let row = row_short number 0 in
    let all = parts_short own_block 1000 10 own_block_short in
    grind (arith, length-append, name, row, all)

open_again_short : (session : ℕ) → session < 10 → length (open_again session) ≤ 1000
unfolding open_again
open_again_short session one =
    let name = length-decimal-le 4 session (omega arith) (omega (arith, one)) (omega (arith, one)) in
    grind (arith, length-append, name)

read_again_short : (session : ℕ) → session < 10 → length (read_again session) ≤ 1000
unfolding read_again
read_again_short session one =
    let name = length-decimal-le 4 session (omega arith) (omega (arith, one)) (omega (arith, one)) in
    grind (arith, length-append, name)

reading_short : length reading_script ≤ 2 ^ 26
unfolding reading_script
reading_short =
    let opens = parts_short (λ k. open_again (4 + k)) 1000 4 (λ k low. open_again_short (4 + k) (omega (arith, low))) in
    let reads = parts_short (λ k. read_again (4 + k)) 1000 4 (λ k low. read_again_short (4 + k) (omega (arith, low))) in
    grind (arith, length-append, opens, reads)

-- no script has more than 2^26 bytes
pub made_short : (number : ℕ) → All (λ text. length text ≤ 2 ^ 26) (made number)
made_short number =
    All-from_recursion (λ text. length text ≤ 2 ^ 26) (made number) (
      shared_short number 0 (omega arith),
      (
        shared_short number 1 (omega arith),
        (
          shared_short number 2 (omega arith),
          (shared_short number 3 (omega arith), (own_short number 4 (omega arith), (own_short number 5 (omega arith), (own_short number 6 (omega arith), (own_short number 7 (omega arith), (reading_short, tt)))))),
        ),
      ),
    )
