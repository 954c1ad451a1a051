-- Texts of declarations with their tokens, and the tree of each, written apart from the grammar; together with `Examples` and
-- the examples of p4_expr they use every alternative. This project's own.
use Rattle.std.specs.Prelude.{List, [], ◌∷◌, ◌++◌, true, false, None, Some, codes}
use Rattle.p4_lexer.specs.declared.token.Kind.TheVariants as kind
use Rattle.elastic_ast.specs.declared.statements.Amount.TheVariants as amount
use Rattle.elastic_ast.specs.declared.statements.Lval.TheVariants as lval
use Rattle.elastic_ast.specs.declared.declarations.Rel.TheVariants as rel
use Rattle.elastic_ast.specs.declared.declarations.UtilTerm.TheVariants as util
use Rattle.elastic_ast.specs.Tree.{PlainExpr, PlainStmt, PlainStmts, PlainKeyset, PlainLocal, PlainNext, PlainDecl, PlainProgram}
use Rattle.spelling.specs.Words.{Word, words}
use Rattle.p4_expr.specs.Examples.{named, signed, reserved, numbered}

abbrev pub worked_declarations : List Word
worked_declarations =
    words
    (codes "#include <core.p4> #include <pisa.p4> symbolic int n; assume(n >= 1 && 2 * n + 1 < 9 && n <= 8 && 0 " ++
    codes "- n == 0 - n && 9 > n); maximize(n - table(n) { 0: 0, 4: 9 } + 2 * n); const bit<8> c = 8w5; const " ++
    codes "bit<8> d = 5; header h_t { bit<8> v; } struct headers_t { h_t h; } struct meta_t { bit<8>[n] x; " ++
    codes "bit<16> y; } Register<bit<32>>(n)[n] r;")
    (
    record { kind = kind.Include 0; at = 0; end = 18 } ∷ record { kind = kind.Include 1; at = 19; end = 37 } ∷ reserved 18 38
    46 ∷ reserved 12 47 50 ∷ named 51 52 ∷ signed 8 52 53 ∷ named 54 60 ∷ signed 2 60 61 ∷ named 61 62 ∷ signed 25 63 65 ∷
    numbered 1 66 67 ∷ signed 26 68 70 ∷ numbered 2 71 72 ∷ signed 15 73 74 ∷ named 75 76 ∷ signed 13 77 78 ∷ numbered 1 79 80
    ∷ signed 6 81 82 ∷ numbered 9 83 84 ∷ signed 26 85 87 ∷ named 88 89 ∷ signed 24 90 92 ∷ numbered 8 93 94 ∷ signed 26 95 97
    ∷ numbered 0 98 99 ∷ signed 14 100 101 ∷ named 102 103 ∷ signed 22 104 106 ∷ numbered 0 107 108 ∷ signed 14 109 110 ∷ named
    111 112 ∷ signed 26 113 115 ∷ numbered 9 116 117 ∷ signed 7 118 119 ∷ named 120 121 ∷ signed 3 121 122 ∷ signed 8 122 123 ∷
    named 124 132 ∷ signed 2 132 133 ∷ named 133 134 ∷ signed 14 135 136 ∷ reserved 19 137 142 ∷ signed 2 142 143 ∷ named 143
    144 ∷ signed 3 144 145 ∷ signed 0 146 147 ∷ numbered 0 148 149 ∷ signed 9 149 150 ∷ numbered 0 151 152 ∷ signed 10 152 153
    ∷ numbered 4 154 155 ∷ signed 9 155 156 ∷ numbered 9 157 158 ∷ signed 1 159 160 ∷ signed 13 161 162 ∷ numbered 2 163 164 ∷
    signed 15 165 166 ∷ named 167 168 ∷ signed 3 168 169 ∷ signed 8 169 170 ∷ reserved 2 171 176 ∷ reserved 1 177 180 ∷ signed
    6 180 181 ∷ numbered 8 181 182 ∷ signed 7 182 183 ∷ named 184 185 ∷ signed 12 186 187 ∷ record {
      kind = kind.Number (Some
          8) 5;
      at = 188;
      end = 191;
    } ∷ signed 8 191 192 ∷ reserved 2 193 198 ∷ reserved 1 199 202 ∷ signed 6 202 203 ∷ numbered 8
    203 204 ∷ signed 7 204 205 ∷ named 206 207 ∷ signed 12 208 209 ∷ numbered 5 210 211 ∷ signed 8 211 212 ∷ reserved 8 213 219
    ∷ named 220 223 ∷ signed 0 224 225 ∷ reserved 1 226 229 ∷ signed 6 229 230 ∷ numbered 8 230 231 ∷ signed 7 231 232 ∷ named
    233 234 ∷ signed 8 234 235 ∷ signed 1 236 237 ∷ reserved 17 238 244 ∷ named 245 254 ∷ signed 0 255 256 ∷ named 257 260 ∷
    named 261 262 ∷ signed 8 262 263 ∷ signed 1 264 265 ∷ reserved 17 266 272 ∷ named 273 279 ∷ signed 0 280 281 ∷ reserved 1
    282 285 ∷ signed 6 285 286 ∷ numbered 8 286 287 ∷ signed 7 287 288 ∷ signed 4 288 289 ∷ named 289 290 ∷ signed 5 290 291 ∷
    named 292 293 ∷ signed 8 293 294 ∷ reserved 1 295 298 ∷ signed 6 298 299 ∷ numbered 16 299 301 ∷ signed 7 301 302 ∷ named
    303 304 ∷ signed 8 304 305 ∷ signed 1 306 307 ∷ named 308 316 ∷ signed 6 316 317 ∷ reserved 1 317 320 ∷ signed 6 320 321 ∷
    numbered 32 321 323 ∷ signed 7 323 324 ∷ signed 7 324 325 ∷ signed 2 325 326 ∷ named 326 327 ∷ signed 3 327 328 ∷ signed 4
    328 329 ∷ named 329 330 ∷ signed 5 330 331 ∷ named 332 333 ∷ signed 8 333 334 ∷ [])

abbrev pub worked_declarations_tree : PlainProgram
worked_declarations_tree =
    (PlainDecl.Include 0) ∷
    (PlainDecl.Include 1) ∷
    (PlainDecl.Symbol (codes "n")) ∷
    (
    PlainDecl.Assume (
    record {
      left = (record { minus = false; by = 1; symbol = (Some (codes "n")) } ∷ []);
      rel = rel.Ge;
      right = (record { minus = false; by = 1; symbol = None } ∷ []);
    } ∷
    record {
      left =
          (
          record { minus = false; by = 2; symbol = (Some (codes "n")) } ∷
          record { minus = false; by = 1; symbol = None } ∷
          []
          );
      rel = rel.Lt;
      right = (record { minus = false; by = 9; symbol = None } ∷ []);
    } ∷
    record {
      left = (record { minus = false; by = 1; symbol = (Some (codes "n")) } ∷ []);
      rel = rel.Le;
      right = (record { minus = false; by = 8; symbol = None } ∷ []);
    } ∷
    record {
      left =
          (
          record { minus = false; by = 0; symbol = None } ∷
          record { minus = true; by = 1; symbol = (Some (codes "n")) } ∷
          []
          );
      rel = rel.Eq;
      right =
          (
          record { minus = false; by = 0; symbol = None } ∷
          record { minus = true; by = 1; symbol = (Some (codes "n")) } ∷
          []
          );
    } ∷
    record {
      left = (record { minus = false; by = 9; symbol = None } ∷ []);
      rel = rel.Gt;
      right = (record { minus = false; by = 1; symbol = (Some (codes "n")) } ∷ []);
    } ∷
    []
    )
    ) ∷
    (
    PlainDecl.Maximize (
    (util.Lin record { minus = false; by = 1; symbol = (Some (codes "n")) }) ∷
    (util.Steps true (codes "n") ((0, 0) ∷ (4, 9) ∷ [])) ∷
    (util.Lin record { minus = false; by = 2; symbol = (Some (codes "n")) }) ∷
    []
    )
    ) ∷
    (PlainDecl.Const (codes "c") 8 5) ∷
    (PlainDecl.Const (codes "d") 8 5) ∷
    (PlainDecl.Header (codes "h_t") (record { name = (codes "v"); width = 8; size = None } ∷ [])) ∷
    (PlainDecl.Headers (((codes "h_t"), (codes "h")) ∷ [])) ∷
    (
    PlainDecl.Meta (
    record { name = (codes "x"); width = 8; size = (Some (codes "n")) } ∷
    record { name = (codes "y"); width = 16; size = None } ∷
    []
    )
    ) ∷
    (PlainDecl.Register (codes "r") 32 (amount.Named (codes "n")) (Some (codes "n"))) ∷
    []

abbrev pub worked_parser : List Word
worked_parser =
    words
    (codes "parser P(packet_in pkt, out headers_t hdr, inout meta_t meta, inout std_t std) { state start { " ++
    codes "pkt.extract(hdr.h); transition select(hdr.h.v) { 1 &&& 3: next; _: next; default: reject; } } state " ++
    codes "next { transition accept; } }")
    (
    reserved 14 0 6 ∷ named 7 8 ∷ signed 2 8 9 ∷ named 9 18 ∷ named 19 22 ∷ signed 10 22 23 ∷ reserved 13 24 27 ∷ named 28 37 ∷
    named 38 41 ∷ signed 10 41 42 ∷ reserved 11 43 48 ∷ named 49 55 ∷ named 56 60 ∷ signed 10 60 61 ∷ reserved 11 62 67 ∷ named
    68 73 ∷ named 74 77 ∷ signed 3 77 78 ∷ signed 0 79 80 ∷ reserved 16 81 86 ∷ named 87 92 ∷ signed 0 93 94 ∷ named 95 98 ∷
    signed 11 98 99 ∷ named 99 106 ∷ signed 2 106 107 ∷ named 107 110 ∷ signed 11 110 111 ∷ named 111 112 ∷ signed 3 112 113 ∷
    signed 8 113 114 ∷ reserved 20 115 125 ∷ reserved 15 126 132 ∷ signed 2 132 133 ∷ named 133 136 ∷ signed 11 136 137 ∷ named
    137 138 ∷ signed 11 138 139 ∷ named 139 140 ∷ signed 3 140 141 ∷ signed 0 142 143 ∷ numbered 1 144 145 ∷ signed 29 146 149
    ∷ numbered 3 150 151 ∷ signed 9 151 152 ∷ named 153 157 ∷ signed 8 157 158 ∷ reserved 22 159 160 ∷ signed 9 160 161 ∷ named
    162 166 ∷ signed 8 166 167 ∷ reserved 4 168 175 ∷ signed 9 175 176 ∷ named 177 183 ∷ signed 8 183 184 ∷ signed 1 185 186 ∷
    signed 1 187 188 ∷ reserved 16 189 194 ∷ named 195 199 ∷ signed 0 200 201 ∷ reserved 20 202 212 ∷ named 213 219 ∷ signed 8
    219 220 ∷ signed 1 221 222 ∷ signed 1 223 224 ∷ [])

abbrev pub worked_parser_tree : PlainProgram
worked_parser_tree =
    (
    PlainDecl.Parser (codes "P") (
    record {
      name = (codes "start");
      extracts = ((codes "h") ∷ []);
      next =
          (
          PlainNext.Select (PlainExpr.At (lval.Header (codes "h") (codes "v"))) (
          ((PlainKeyset.Masked (PlainExpr.Num None 1) (PlainExpr.Num None 3)), (codes "next")) ∷
          (PlainKeyset.Any, (codes "next")) ∷
          (PlainKeyset.Any, (codes "reject")) ∷
          []
          )
          );
    } ∷
    record { name = (codes "next"); extracts = []; next = (PlainNext.To (codes "accept")) } ∷
    []
    )
    ) ∷
    []

abbrev pub worked_control : List Word
worked_control =
    words
    (codes "control C(inout headers_t hdr, inout meta_t meta, inout std_t std) { action a[int i](bit<8> p) { " ++
    codes "meta.x[i] = hash(i, hdr.h.v, n); meta.x[i] = r[i].read(p); r[i].write(meta.x[i], 1); " ++
    codes "hdr.h.setInvalid(); } action b(bit<8> p, bit<4> q) { hdr.h.v = p; meta.y = q ++ p | p ^ p & p; " ++
    codes "hdr.h.setValid(); meta.y = s.read(8w3); } table u { actions = { NoAction; } const entries = { 5: " ++
    codes "NoAction(); } default_action = b(1, c); } table t { key = { hdr.h.v: ternary; std.in_port: exact; } " ++
    codes "actions = { b; NoAction; } const entries = { (5 &&& 15, _): b(8w1); } const default_action = " ++
    codes "NoAction(); size = 4; } apply { for (i < n) { a[i](c); } if (!hdr.h.isValid()) t.apply(); else { " ++
    codes "std.drop = 1; } { b(1, 2); } if (c < 2) { } if (true || false && meta.y != 1 && 1 <= meta.y) { } if " ++
    codes "(meta.y >= 1 || meta.y > meta.y) if (c == 0) t.apply(); else u.apply(); @stage(0) { meta.y = " ++
    codes "(bit<16>)(hdr.h.v[3:0]) >> 2; } } }")
    (
    reserved 3 0 7 ∷ named 8 9 ∷ signed 2 9 10 ∷ reserved 11 10 15 ∷ named 16 25 ∷ named 26 29 ∷ signed 10 29 30 ∷ reserved 11
    31 36 ∷ named 37 43 ∷ named 44 48 ∷ signed 10 48 49 ∷ reserved 11 50 55 ∷ named 56 61 ∷ named 62 65 ∷ signed 3 65 66 ∷
    signed 0 67 68 ∷ reserved 0 69 75 ∷ named 76 77 ∷ signed 4 77 78 ∷ reserved 12 78 81 ∷ named 82 83 ∷ signed 5 83 84 ∷
    signed 2 84 85 ∷ reserved 1 85 88 ∷ signed 6 88 89 ∷ numbered 8 89 90 ∷ signed 7 90 91 ∷ named 92 93 ∷ signed 3 93 94 ∷
    signed 0 95 96 ∷ named 97 101 ∷ signed 11 101 102 ∷ named 102 103 ∷ signed 4 103 104 ∷ named 104 105 ∷ signed 5 105 106 ∷
    signed 12 107 108 ∷ named 109 113 ∷ signed 2 113 114 ∷ named 114 115 ∷ signed 10 115 116 ∷ named 117 120 ∷ signed 11 120
    121 ∷ named 121 122 ∷ signed 11 122 123 ∷ named 123 124 ∷ signed 10 124 125 ∷ named 126 127 ∷ signed 3 127 128 ∷ signed 8
    128 129 ∷ named 130 134 ∷ signed 11 134 135 ∷ named 135 136 ∷ signed 4 136 137 ∷ named 137 138 ∷ signed 5 138 139 ∷ signed
    12 140 141 ∷ named 142 143 ∷ signed 4 143 144 ∷ named 144 145 ∷ signed 5 145 146 ∷ signed 11 146 147 ∷ named 147 151 ∷
    signed 2 151 152 ∷ named 152 153 ∷ signed 3 153 154 ∷ signed 8 154 155 ∷ named 156 157 ∷ signed 4 157 158 ∷ named 158 159 ∷
    signed 5 159 160 ∷ signed 11 160 161 ∷ named 161 166 ∷ signed 2 166 167 ∷ named 167 171 ∷ signed 11 171 172 ∷ named 172 173
    ∷ signed 4 173 174 ∷ named 174 175 ∷ signed 5 175 176 ∷ signed 10 176 177 ∷ numbered 1 178 179 ∷ signed 3 179 180 ∷ signed
    8 180 181 ∷ named 182 185 ∷ signed 11 185 186 ∷ named 186 187 ∷ signed 11 187 188 ∷ named 188 198 ∷ signed 2 198 199 ∷
    signed 3 199 200 ∷ signed 8 200 201 ∷ signed 1 202 203 ∷ reserved 0 204 210 ∷ named 211 212 ∷ signed 2 212 213 ∷ reserved 1
    213 216 ∷ signed 6 216 217 ∷ numbered 8 217 218 ∷ signed 7 218 219 ∷ named 220 221 ∷ signed 10 221 222 ∷ reserved 1 223 226
    ∷ signed 6 226 227 ∷ numbered 4 227 228 ∷ signed 7 228 229 ∷ named 230 231 ∷ signed 3 231 232 ∷ signed 0 233 234 ∷ named
    235 238 ∷ signed 11 238 239 ∷ named 239 240 ∷ signed 11 240 241 ∷ named 241 242 ∷ signed 12 243 244 ∷ named 245 246 ∷
    signed 8 246 247 ∷ named 248 252 ∷ signed 11 252 253 ∷ named 253 254 ∷ signed 12 255 256 ∷ named 257 258 ∷ signed 21 259
    261 ∷ named 262 263 ∷ signed 17 264 265 ∷ named 266 267 ∷ signed 18 268 269 ∷ named 270 271 ∷ signed 16 272 273 ∷ named 274
    275 ∷ signed 8 275 276 ∷ named 277 280 ∷ signed 11 280 281 ∷ named 281 282 ∷ signed 11 282 283 ∷ named 283 291 ∷ signed 2
    291 292 ∷ signed 3 292 293 ∷ signed 8 293 294 ∷ named 295 299 ∷ signed 11 299 300 ∷ named 300 301 ∷ signed 12 302 303 ∷
    named 304 305 ∷ signed 11 305 306 ∷ named 306 310 ∷ signed 2 310 311 ∷ record {
      kind = kind.Number (Some 8) 3;
      at = 311;
      end = 314;
    } ∷ signed 3 314 315 ∷ signed 8 315 316 ∷ signed 1 317 318 ∷ reserved 19 319 324 ∷ named 325 326 ∷ signed 0 327
    328 ∷ named 329 336 ∷ signed 12 337 338 ∷ signed 0 339 340 ∷ named 341 349 ∷ signed 8 349 350 ∷ signed 1 351 352 ∷ reserved
    2 353 358 ∷ named 359 366 ∷ signed 12 367 368 ∷ signed 0 369 370 ∷ numbered 5 371 372 ∷ signed 9 372 373 ∷ named 374 382 ∷
    signed 2 382 383 ∷ signed 3 383 384 ∷ signed 8 384 385 ∷ signed 1 386 387 ∷ named 388 402 ∷ signed 12 403 404 ∷ named 405
    406 ∷ signed 2 406 407 ∷ numbered 1 407 408 ∷ signed 10 408 409 ∷ named 410 411 ∷ signed 3 411 412 ∷ signed 8 412 413 ∷
    signed 1 414 415 ∷ reserved 19 416 421 ∷ named 422 423 ∷ signed 0 424 425 ∷ named 426 429 ∷ signed 12 430 431 ∷ signed 0
    432 433 ∷ named 434 437 ∷ signed 11 437 438 ∷ named 438 439 ∷ signed 11 439 440 ∷ named 440 441 ∷ signed 9 441 442 ∷ named
    443 450 ∷ signed 8 450 451 ∷ named 452 455 ∷ signed 11 455 456 ∷ named 456 463 ∷ signed 9 463 464 ∷ named 465 470 ∷ signed
    8 470 471 ∷ signed 1 472 473 ∷ named 474 481 ∷ signed 12 482 483 ∷ signed 0 484 485 ∷ named 486 487 ∷ signed 8 487 488 ∷
    named 489 497 ∷ signed 8 497 498 ∷ signed 1 499 500 ∷ reserved 2 501 506 ∷ named 507 514 ∷ signed 12 515 516 ∷ signed 0 517
    518 ∷ signed 2 519 520 ∷ numbered 5 520 521 ∷ signed 29 522 525 ∷ numbered 15 526 528 ∷ signed 10 528 529 ∷ reserved 22 530
    531 ∷ signed 3 531 532 ∷ signed 9 532 533 ∷ named 534 535 ∷ signed 2 535 536 ∷ record {
      kind = kind.Number (Some 8) 1;
      at =
          536;
      end = 539;
    } ∷ signed 3 539 540 ∷ signed 8 540 541 ∷ signed 1 542 543 ∷ reserved 2 544 549 ∷ named 550 564 ∷ signed 12
    565 566 ∷ named 567 575 ∷ signed 2 575 576 ∷ signed 3 576 577 ∷ signed 8 577 578 ∷ named 579 583 ∷ signed 12 584 585 ∷
    numbered 4 586 587 ∷ signed 8 587 588 ∷ signed 1 589 590 ∷ named 591 596 ∷ signed 0 597 598 ∷ reserved 7 599 602 ∷ signed 2
    603 604 ∷ named 604 605 ∷ signed 6 606 607 ∷ named 608 609 ∷ signed 3 609 610 ∷ signed 0 611 612 ∷ named 613 614 ∷ signed 4
    614 615 ∷ named 615 616 ∷ signed 5 616 617 ∷ signed 2 617 618 ∷ named 618 619 ∷ signed 3 619 620 ∷ signed 8 620 621 ∷
    signed 1 622 623 ∷ reserved 9 624 626 ∷ signed 2 627 628 ∷ signed 20 628 629 ∷ named 629 632 ∷ signed 11 632 633 ∷ named
    633 634 ∷ signed 11 634 635 ∷ named 635 642 ∷ signed 2 642 643 ∷ signed 3 643 644 ∷ signed 3 644 645 ∷ named 646 647 ∷
    signed 11 647 648 ∷ named 648 653 ∷ signed 2 653 654 ∷ signed 3 654 655 ∷ signed 8 655 656 ∷ reserved 5 657 661 ∷ signed 0
    662 663 ∷ named 664 667 ∷ signed 11 667 668 ∷ named 668 672 ∷ signed 12 673 674 ∷ numbered 1 675 676 ∷ signed 8 676 677 ∷
    signed 1 678 679 ∷ signed 0 680 681 ∷ named 682 683 ∷ signed 2 683 684 ∷ numbered 1 684 685 ∷ signed 10 685 686 ∷ numbered
    2 687 688 ∷ signed 3 688 689 ∷ signed 8 689 690 ∷ signed 1 691 692 ∷ reserved 9 693 695 ∷ signed 2 696 697 ∷ named 697 698
    ∷ signed 6 699 700 ∷ numbered 2 701 702 ∷ signed 3 702 703 ∷ signed 0 704 705 ∷ signed 1 706 707 ∷ reserved 9 708 710 ∷
    signed 2 711 712 ∷ reserved 21 712 716 ∷ signed 27 717 719 ∷ reserved 6 720 725 ∷ signed 26 726 728 ∷ named 729 733 ∷
    signed 11 733 734 ∷ named 734 735 ∷ signed 23 736 738 ∷ numbered 1 739 740 ∷ signed 26 741 743 ∷ numbered 1 744 745 ∷
    signed 24 746 748 ∷ named 749 753 ∷ signed 11 753 754 ∷ named 754 755 ∷ signed 3 755 756 ∷ signed 0 757 758 ∷ signed 1 759
    760 ∷ reserved 9 761 763 ∷ signed 2 764 765 ∷ named 765 769 ∷ signed 11 769 770 ∷ named 770 771 ∷ signed 25 772 774 ∷
    numbered 1 775 776 ∷ signed 27 777 779 ∷ named 780 784 ∷ signed 11 784 785 ∷ named 785 786 ∷ signed 7 787 788 ∷ named 789
    793 ∷ signed 11 793 794 ∷ named 794 795 ∷ signed 3 795 796 ∷ reserved 9 797 799 ∷ signed 2 800 801 ∷ named 801 802 ∷ signed
    22 803 805 ∷ numbered 0 806 807 ∷ signed 3 807 808 ∷ named 809 810 ∷ signed 11 810 811 ∷ named 811 816 ∷ signed 2 816 817 ∷
    signed 3 817 818 ∷ signed 8 818 819 ∷ reserved 5 820 824 ∷ named 825 826 ∷ signed 11 826 827 ∷ named 827 832 ∷ signed 2 832
    833 ∷ signed 3 833 834 ∷ signed 8 834 835 ∷ signed 30 836 837 ∷ named 837 842 ∷ signed 2 842 843 ∷ numbered 0 843 844 ∷
    signed 3 844 845 ∷ signed 0 846 847 ∷ named 848 852 ∷ signed 11 852 853 ∷ named 853 854 ∷ signed 12 855 856 ∷ signed 2 857
    858 ∷ reserved 1 858 861 ∷ signed 6 861 862 ∷ numbered 16 862 864 ∷ signed 7 864 865 ∷ signed 3 865 866 ∷ signed 2 866 867
    ∷ named 867 870 ∷ signed 11 870 871 ∷ named 871 872 ∷ signed 11 872 873 ∷ named 873 874 ∷ signed 4 874 875 ∷ numbered 3 875
    876 ∷ signed 9 876 877 ∷ numbered 0 877 878 ∷ signed 5 878 879 ∷ signed 3 879 880 ∷ signed 7 881 882 ∷ signed 7 882 883 ∷
    numbered 2 884 885 ∷ signed 8 885 886 ∷ signed 1 887 888 ∷ signed 1 889 890 ∷ signed 1 891 892 ∷ [])

abbrev pub worked_control_tree : PlainProgram
worked_control_tree =
    (
    PlainDecl.Control (codes "C") (
    (
    PlainLocal.OfAction record {
      name = (codes "a");
      index = (Some (codes "i"));
      params = (record { name = (codes "p"); width = 8 } ∷ []);
      body =
          (
          PlainStmts.cons (
          PlainStmt.Assign (lval.Meta (codes "x") (Some (codes "i"))) (
          PlainExpr.Hash (amount.Named (codes "i")) (PlainExpr.At (lval.Header (codes "h") (codes "v"))) (
          amount.Named (codes "n")
          )
          )
          ) (
          PlainStmts.cons (
          PlainStmt.Read (lval.Meta (codes "x") (Some (codes "i"))) record {
            name = (codes "r");
            index = (Some (codes "i"));
          } (PlainExpr.Named (codes "p"))
          ) (
          PlainStmts.cons (
          PlainStmt.Write record { name = (codes "r"); index = (Some (codes "i")) } (
          PlainExpr.At (lval.Meta (codes "x") (Some (codes "i")))
          ) (PlainExpr.Num None 1)
          ) (PlainStmts.cons (PlainStmt.Valid (codes "h") false) PlainStmts.nil)
          )
          )
          );
    }
    ) ∷
    (
    PlainLocal.OfAction record {
      name = (codes "b");
      index = None;
      params = (record { name = (codes "p"); width = 8 } ∷ record { name = (codes "q"); width = 4 } ∷ []);
      body =
          (
          PlainStmts.cons (PlainStmt.Assign (lval.Header (codes "h") (codes "v")) (PlainExpr.Named (codes "p"))) (
          PlainStmts.cons (
          PlainStmt.Assign (lval.Meta (codes "y") None) (
          PlainExpr.Binary 8 (PlainExpr.Binary 15 (PlainExpr.Named (codes "q")) (PlainExpr.Named (codes "p"))) (
          PlainExpr.Binary 9 (PlainExpr.Named (codes "p")) (
          PlainExpr.Binary 10 (PlainExpr.Named (codes "p")) (PlainExpr.Named (codes "p"))
          )
          )
          )
          ) (
          PlainStmts.cons (PlainStmt.Valid (codes "h") true) (
          PlainStmts.cons (
          PlainStmt.Read (lval.Meta (codes "y") None) record { name = (codes "s"); index = None } (
          PlainExpr.Num (Some 8) 3
          )
          ) PlainStmts.nil
          )
          )
          )
          );
    }
    ) ∷
    (
    PlainLocal.OfTable record {
      name = (codes "u");
      keys = [];
      actions = ((codes "NoAction") ∷ []);
      entries =
          (
          record { keys = ((PlainKeyset.One (PlainExpr.Num None 5)) ∷ []); action = (codes "NoAction"); args = [] } ∷
          []
          );
      fallback = Some ((codes "b"), ((PlainExpr.Num None 1) ∷ (PlainExpr.Named (codes "c")) ∷ []));
      size = None;
    }
    ) ∷
    (
    PlainLocal.OfTable record {
      name = (codes "t");
      keys =
          (
          record { field = (lval.Header (codes "h") (codes "v")); ternary = true } ∷
          record { field = (lval.Std (codes "in_port")); ternary = false } ∷
          []
          );
      actions = ((codes "b") ∷ (codes "NoAction") ∷ []);
      entries =
          (
          record {
            keys = ((PlainKeyset.Masked (PlainExpr.Num None 5) (PlainExpr.Num None 15)) ∷ PlainKeyset.Any ∷ []);
            action = (codes "b");
            args = ((PlainExpr.Num (Some 8) 1) ∷ []);
          } ∷
          []
          );
      fallback = Some ((codes "NoAction"), []);
      size = Some 4;
    }
    ) ∷
    []
    ) (
    PlainStmts.cons (
    PlainStmt.For (codes "i") (codes "n") (
    PlainStmts.cons (PlainStmt.Call (codes "a") (Some (codes "i")) ((PlainExpr.Named (codes "c")) ∷ [])) PlainStmts.nil
    )
    ) (
    PlainStmts.cons (
    PlainStmt.IfElse (PlainExpr.Unary 18 (PlainExpr.IsValid (codes "h"))) (
    PlainStmts.cons (PlainStmt.Apply (codes "t")) PlainStmts.nil
    ) (PlainStmts.cons (PlainStmt.Assign (lval.Std (codes "drop")) (PlainExpr.Num None 1)) PlainStmts.nil)
    ) (
    PlainStmts.cons (
    PlainStmt.Block None (
    PlainStmts.cons (PlainStmt.Call (codes "b") None ((PlainExpr.Num None 1) ∷ (PlainExpr.Num None 2) ∷ [])) PlainStmts.nil
    )
    ) (
    PlainStmts.cons (
    PlainStmt.If (PlainExpr.Binary 4 (PlainExpr.Named (codes "c")) (PlainExpr.Num None 2)) PlainStmts.nil
    ) (
    PlainStmts.cons (
    PlainStmt.If (
    PlainExpr.Binary 0 (PlainExpr.Truth true) (
    PlainExpr.Binary 1 (
    PlainExpr.Binary 1 (PlainExpr.Truth false) (
    PlainExpr.Binary 3 (PlainExpr.At (lval.Meta (codes "y") None)) (PlainExpr.Num None 1)
    )
    ) (PlainExpr.Binary 5 (PlainExpr.Num None 1) (PlainExpr.At (lval.Meta (codes "y") None)))
    )
    ) PlainStmts.nil
    ) (
    PlainStmts.cons (
    PlainStmt.If (
    PlainExpr.Binary 0 (
    PlainExpr.Binary 7 (PlainExpr.At (lval.Meta (codes "y") None)) (PlainExpr.Num None 1)
    ) (
    PlainExpr.Binary 6 (PlainExpr.At (lval.Meta (codes "y") None)) (
    PlainExpr.At (lval.Meta (codes "y") None)
    )
    )
    ) (
    PlainStmts.cons (
    PlainStmt.IfElse (PlainExpr.Binary 2 (PlainExpr.Named (codes "c")) (PlainExpr.Num None 0)) (
    PlainStmts.cons (PlainStmt.Apply (codes "t")) PlainStmts.nil
    ) (PlainStmts.cons (PlainStmt.Apply (codes "u")) PlainStmts.nil)
    ) PlainStmts.nil
    )
    ) (
    PlainStmts.cons (
    PlainStmt.Block (Some 0) (
    PlainStmts.cons (
    PlainStmt.Assign (lval.Meta (codes "y") None) (
    PlainExpr.Binary 12 (
    PlainExpr.Cast 16 (PlainExpr.Slice (PlainExpr.At (lval.Header (codes "h") (codes "v"))) 3 0)
    ) (PlainExpr.Num None 2)
    )
    ) PlainStmts.nil
    )
    ) PlainStmts.nil
    )
    )
    )
    )
    )
    )
    )
    ) ∷
    []

abbrev pub worked_end : List Word
worked_end =
    words
    (codes "control D(packet_out pkt, in headers_t hdr) { apply { pkt.emit(hdr.h); } } Pisa(P(), C(), D()) main;")
    (
    reserved 3 0 7 ∷ named 8 9 ∷ signed 2 9 10 ∷ named 10 20 ∷ named 21 24 ∷ signed 10 24 25 ∷ reserved 10 26 28 ∷ named 29 38
    ∷ named 39 42 ∷ signed 3 42 43 ∷ signed 0 44 45 ∷ named 46 51 ∷ signed 0 52 53 ∷ named 54 57 ∷ signed 11 57 58 ∷ named 58
    62 ∷ signed 2 62 63 ∷ named 63 66 ∷ signed 11 66 67 ∷ named 67 68 ∷ signed 3 68 69 ∷ signed 8 69 70 ∷ signed 1 71 72 ∷
    signed 1 73 74 ∷ named 75 79 ∷ signed 2 79 80 ∷ named 80 81 ∷ signed 2 81 82 ∷ signed 3 82 83 ∷ signed 10 83 84 ∷ named 85
    86 ∷ signed 2 86 87 ∷ signed 3 87 88 ∷ signed 10 88 89 ∷ named 90 91 ∷ signed 2 91 92 ∷ signed 3 92 93 ∷ signed 3 93 94 ∷
    named 95 99 ∷ signed 8 99 100 ∷ [])

abbrev pub worked_end_tree : PlainProgram
worked_end_tree =
    (PlainDecl.Deparser (codes "D") ((codes "h") ∷ [])) ∷ (PlainDecl.Main (codes "P") (codes "C") (codes "D")) ∷ []
