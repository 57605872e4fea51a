-- Pieces written one after the other, as a root block is.
use Rattle.std.proofs.Common.{◌≡◌, ℕ, ◌+◌, ◌-◌, ◌≤◌, List, [], ◌++◌, length, take, drop, sym, ap, ◌∙◌, append_assoc, arith}
use Rattle.std.specs.Prelude.{replicate}
use Rattle.std.specs.List.{AllByRecursion}
use Rattle.std.proofs.lemmas.List.{append-nil, length-append, length-take, length-drop, length-replicate, take_at, drop_at, drop_all}
use borrow.Rule.Slice.PartMut.{put_mid}
use Rattle.fo_image.specs.declared.record.RootBlock.{RootBlock}
use Rattle.fo_image.specs.Field.{FieldFits, zeros, spelling, Spells}
use Rattle.fo_image.specs.Format.{entry_fields, EntryHolds}
use Rattle.fo_image.specs.Record.{RecordHolds, record_len, record_fields, RootHolds, root_head, root_fields}
use Rattle.fo_image.proofs.PointerLemmas.{padded_whole}
use Rattle.fo_image.proofs.RecordLemmas.{fit_both, length-entry, length-record, root_parts, root_spelling}

pub write_after : (front old piece : List ℕ) (at k : ℕ) → length front ≡ at → length piece ≡ k → put_mid at k (front ++ old) piece ≡ (front ++ piece) ++ drop k old
write_after front old piece at k front_len piece_len =
    rw (take_at front old at front_len, drop_at front old at front_len) (sym (append_assoc front piece (drop k old)))

-- what stands there once the first four pieces are written
abbrev pub row : List ℕ → List ℕ → List ℕ → List ℕ → List ℕ → ℕ → List ℕ
row w1 w2 w3 w4 into k = put_mid 104 (104 + k - 104) (put_mid 64 40 (put_mid 24 40 (w1 ++ drop 24 into) w2) w3) w4

row_is : (w1 w2 w3 w4 into : List ℕ) (k : ℕ) → length w1 ≡ 24 → length w2 ≡ 40 → length w3 ≡ 40 → length w4 ≡ k
    → row w1 w2 w3 w4 into k ≡ (((w1 ++ w2) ++ w3) ++ w4) ++ drop (104 + k - 104) (drop 40 (drop 40 (drop 24 into)))
row_is w1 w2 w3 w4 into k l1 l2 l3 l4 =
    let f2 : length (w1 ++ w2) ≡ 64 = omega (arith, length-append w1 w2) in
    let f3 : length ((w1 ++ w2) ++ w3) ≡ 104 = omega (arith, length-append (w1 ++ w2) w3) in
    let m : length w4 ≡ 104 + k - 104 = omega arith in
    let a = write_after w1 (drop 24 into) w2 24 40 l1 l2 in
    let b = write_after (w1 ++ w2) (drop 40 (drop 24 into)) w3 64 40 f2 l3 in
    let c = write_after ((w1 ++ w2) ++ w3) (drop 40 (drop 40 (drop 24 into))) w4 104 (104 + k - 104) f3 m in
    ap (λ xs. put_mid 104 (104 + k - 104) (put_mid 64 40 xs w3) w4) a ∙ ap (λ xs. put_mid 104 (104 + k - 104) xs w4) b ∙ c

pub in_a_row : (w1 w2 w3 w4 w5 into : List ℕ) (k : ℕ) → length w1 ≡ 24 → length w2 ≡ 40 → length w3 ≡ 40 → length w4 ≡ k → length into ≡ 8192 → k ≤ 481
    → w5 ≡ replicate (length (take (length (row w1 w2 w3 w4 into k) - (104 + k)) (drop (104 + k) (row w1 w2 w3 w4 into k)))) 0
    → put_mid (104 + k) (length (row w1 w2 w3 w4 into k) - (104 + k)) (row w1 w2 w3 w4 into k) w5 ≡ (((w1 ++ w2) ++ w3) ++ w4) ++ zeros (8192 - (104 + k))
unfolding zeros
in_a_row w1 w2 w3 w4 w5 into k l1 l2 l3 l4 len short w5_is =
    let front = ((w1 ++ w2) ++ w3) ++ w4 in
    let rest = drop (104 + k - 104) (drop 40 (drop 40 (drop 24 into))) in
    let done = row w1 w2 w3 w4 into k in
    let is : done ≡ front ++ rest = row_is w1 w2 w3 w4 into k l1 l2 l3 l4 in
    let front_len : length front ≡ 104 + k = omega (arith, length-append w1 w2, length-append (w1 ++ w2) w3, length-append ((w1 ++ w2) ++ w3) w4) in
    let rest_len : length rest ≡ 8192 - (104 + k) = omega (arith, length-drop (104 + k - 104) (drop 40 (drop 40 (drop 24 into))), length-drop 40 (drop 40 (drop 24 into)), length-drop 40 (drop 24 into), length-drop 24 into) in
    let done_len : length done ≡ 8192 = omega (arith, ap length is, length-append front rest) in
    let z : length done - (104 + k) ≡ 8192 - (104 + k) = omega arith in
    let n : length (take (length done - (104 + k)) (drop (104 + k) done)) ≡ 8192 - (104 + k) = omega (arith, length-take (length done - (104 + k)) (drop (104 + k) done), length-drop (104 + k) done) in
    let back : w5 ≡ replicate (8192 - (104 + k)) 0 = w5_is ∙ ap (λ i. replicate i 0) n in
    let none : drop (length done - (104 + k)) rest ≡ [] = drop_all (length done - (104 + k)) rest (omega arith) in
    let piece_len : length w5 ≡ length done - (104 + k) = ap length back ∙ length-replicate (8192 - (104 + k)) 0 ∙ sym z in
    ap (λ xs. put_mid (104 + k) (length done - (104 + k)) xs w5) is ∙ write_after front rest w5 (104 + k) (length done - (104 + k)) front_len piece_len
    ∙ ap (λ xs. (front ++ w5) ++ xs) none ∙ append-nil (front ++ w5) ∙ ap (λ xs. front ++ xs) back

regroup : (h e m o : List ℕ) → h ++ (e ++ (m ++ (o ++ []))) ≡ ((h ++ e) ++ m) ++ o
regroup h e m o = simp (append_assoc, append-nil)

root_is_row : (v : RootBlock) → spelling (root_fields v)
    ≡ ((spelling (root_head v.epoch v.time v.prev_epoch v.prev) ++ spelling (entry_fields v.entries)) ++ spelling (entry_fields v.meta)) ++ spelling (record_fields v.own)
unfolding root_parts
root_is_row v = sym (append-nil (spelling (root_fields v))) ∙ root_spelling v []
    ∙ regroup (spelling (root_head v.epoch v.time v.prev_epoch v.prev)) (spelling (entry_fields v.entries)) (spelling (entry_fields v.meta)) (spelling (record_fields v.own))

pub root_written : (v : RootBlock) (w1 w2 w3 w4 w5 into : List ℕ) (k : ℕ) → RootHolds v → AllByRecursion FieldFits (root_head v.epoch v.time v.prev_epoch v.prev)
    → w1 ≡ spelling (root_head v.epoch v.time v.prev_epoch v.prev) → Spells 40 entry_fields EntryHolds v.entries w2 → Spells 40 entry_fields EntryHolds v.meta w3
    → Spells (record_len v.own) record_fields RecordHolds v.own w4 → k ≡ record_len v.own → k ≤ 481 → length into ≡ 8192
    → w5 ≡ replicate (length (take (length (row w1 w2 w3 w4 into k) - (104 + k)) (drop (104 + k) (row w1 w2 w3 w4 into k)))) 0
    → Spells 8192 root_fields RootHolds v (put_mid (104 + k) (length (row w1 w2 w3 w4 into k) - (104 + k)) (row w1 w2 w3 w4 into k) w5)
root_written v w1 w2 w3 w4 w5 into k holds fit w1_is s2 s3 s4 k_is short len w5_is =
    let H = root_head v.epoch v.time v.prev_epoch v.prev in
    let E = entry_fields v.entries in
    let M = entry_fields v.meta in
    let O = record_fields v.own in
    let w2_is : w2 ≡ spelling E = s2.bytes_are ∙ padded_whole (spelling E) 40 (length-entry v.entries s2.fit.1.1.1.1.1.1.0) in
    let w3_is : w3 ≡ spelling M = s3.bytes_are ∙ padded_whole (spelling M) 40 (length-entry v.meta s3.fit.1.1.1.1.1.1.0) in
    let w4_is : w4 ≡ spelling O = s4.bytes_are ∙ padded_whole (spelling O) (record_len v.own) (length-record v.own) in
    let l1 : length w1 ≡ 24 = ap length w1_is in
    let l2 : length w2 ≡ 40 = ap length w2_is ∙ length-entry v.entries s2.fit.1.1.1.1.1.1.0 in
    let l3 : length w3 ≡ 40 = ap length w3_is ∙ length-entry v.meta s3.fit.1.1.1.1.1.1.0 in
    let l4 : length w4 ≡ k = ap length w4_is ∙ length-record v.own ∙ sym k_is in
    let front : ((w1 ++ w2) ++ w3) ++ w4 ≡ spelling (root_fields v) = cc (w1_is, w2_is, w3_is, w4_is, root_is_row v) in
    let n : length (spelling (root_fields v)) ≡ 104 + k = omega (arith, ap length (sym front), length-append w1 w2, length-append (w1 ++ w2) w3, length-append ((w1 ++ w2) ++ w3) w4) in
    let size : 8192 - (104 + k) ≡ 8192 - length (spelling (root_fields v)) = omega arith in
    record {
      holds = holds;
      fit = fit_both H (E ++ (M ++ O)) fit (fit_both E (M ++ O) s2.fit (fit_both M O s3.fit s4.fit));
      bytes_are = in_a_row w1 w2 w3 w4 w5 into k l1 l2 l3 l4 len short w5_is ∙ ap (λ xs. xs ++ zeros (8192 - (104 + k))) front ∙ ap (λ i. spelling (root_fields v) ++ zeros i) size;
    }
