-- The tables of tables.rs: taps from the centre outwards. Place 0 is the centre tap, place k the taps at -k and +k.
use Rattle.std.specs.Prelude.{List, [], ◌∷◌, ℤ, pos, negsuc}

unfoldable pub S1 : List ℤ
S1 =
    pos 7409628 ∷ pos 7232417 ∷ pos 6719120 ∷ pos 5922232 ∷ pos 4920970 ∷ pos 3810421 ∷ pos 2688964 ∷
    pos 1646100 ∷ pos 752433 ∷ pos 53347 ∷ negsuc 433256 ∷ negsuc 714946 ∷ negsuc 819606 ∷ negsuc 788172 ∷
    negsuc 666821 ∷ negsuc 499861 ∷ negsuc 324436 ∷ negsuc 167318 ∷ negsuc 44160 ∷ pos 39531 ∷ pos 86017 ∷
    pos 102453 ∷ pos 98066 ∷ pos 81947 ∷ pos 61495 ∷ pos 41851 ∷ pos 25795 ∷ pos 14261 ∷ pos 6925 ∷ pos 2830 ∷
    pos 901 ∷ pos 127 ∷ []

unfoldable pub S1_WIDE : List ℤ
S1_WIDE =
    pos 7608244 ∷ pos 7434516 ∷ pos 6929016 ∷ pos 6137050 ∷ pos 5128214 ∷ pos 3988472 ∷ pos 2810537 ∷
    pos 1683914 ∷ pos 685772 ∷ negsuc 126066 ∷ negsuc 717549 ∷ negsuc 1079515 ∷ negsuc 1225944 ∷
    negsuc 1189587 ∷ negsuc 1015915 ∷ negsuc 756241 ∷ negsuc 461121 ∷ negsuc 174647 ∷ pos 69450 ∷ pos 249961 ∷
    pos 358288 ∷ pos 396987 ∷ pos 377086 ∷ pos 314849 ∷ pos 228391 ∷ pos 134880 ∷ pos 48299 ∷ negsuc 21693 ∷
    negsuc 70138 ∷ negsuc 96317 ∷ negsuc 102824 ∷ negsuc 94294 ∷ negsuc 76256 ∷ negsuc 53991 ∷ negsuc 31888 ∷
    negsuc 12965 ∷ pos 1150 ∷ pos 10081 ∷ pos 14347 ∷ pos 15042 ∷ pos 13390 ∷ pos 10588 ∷ pos 7529 ∷ pos 4814 ∷
    pos 2728 ∷ pos 1325 ∷ pos 540 ∷ pos 63 ∷ []

unfoldable pub HB : List ℤ
HB =
    pos 8388608 ∷ pos 5235718 ∷ pos 0 ∷ negsuc 1487951 ∷ pos 0 ∷ pos 644686 ∷ pos 0 ∷ negsuc 277534 ∷ pos 0 ∷
    pos 105711 ∷ pos 0 ∷ negsuc 32782 ∷ pos 0 ∷ pos 7382 ∷ pos 0 ∷ negsuc 922 ∷ []

unfoldable pub F40 : List ℤ
F40 =
    pos 8258102 ∷ pos 5332212 ∷ pos 128306 ∷ negsuc 1758593 ∷ negsuc 126679 ∷ pos 1032890 ∷ pos 124008 ∷
    negsuc 714456 ∷ negsuc 120351 ∷ pos 532268 ∷ pos 115790 ∷ negsuc 412506 ∷ negsuc 110423 ∷ pos 326864 ∷
    pos 104364 ∷ negsuc 262172 ∷ negsuc 97737 ∷ pos 211492 ∷ pos 90676 ∷ negsuc 170810 ∷ negsuc 83317 ∷
    pos 137646 ∷ pos 75798 ∷ negsuc 110356 ∷ negsuc 68249 ∷ pos 87812 ∷ pos 60796 ∷ negsuc 69177 ∷
    negsuc 53551 ∷ pos 53828 ∷ pos 46615 ∷ negsuc 41254 ∷ negsuc 40073 ∷ pos 31048 ∷ pos 33994 ∷ negsuc 22851 ∷
    negsuc 28426 ∷ pos 16364 ∷ pos 23406 ∷ negsuc 11314 ∷ negsuc 18948 ∷ pos 7469 ∷ pos 15054 ∷ negsuc 4611 ∷
    negsuc 11712 ∷ pos 2561 ∷ pos 8896 ∷ negsuc 1147 ∷ negsuc 6570 ∷ pos 233 ∷ pos 4694 ∷ pos 306 ∷
    negsuc 3219 ∷ negsuc 568 ∷ pos 2102 ∷ pos 643 ∷ negsuc 1313 ∷ negsuc 609 ∷ pos 940 ∷ pos 1106 ∷ pos 396 ∷ []

unfoldable pub F30 : List ℤ
F30 =
    pos 6195570 ∷ pos 4893995 ∷ pos 1951411 ∷ negsuc 587399 ∷ negsuc 1319338 ∷ negsuc 489667 ∷ pos 545317 ∷
    pos 715459 ∷ pos 93556 ∷ negsuc 480236 ∷ negsuc 414829 ∷ pos 86011 ∷ pos 398945 ∷ pos 219338 ∷
    negsuc 171265 ∷ negsuc 309480 ∷ negsuc 83222 ∷ pos 201363 ∷ pos 220012 ∷ negsuc 9395 ∷ negsuc 196110 ∷
    negsuc 137767 ∷ pos 66823 ∷ pos 169043 ∷ pos 68217 ∷ negsuc 95702 ∷ negsuc 130711 ∷ negsuc 14586 ∷
    pos 102616 ∷ pos 89409 ∷ negsuc 22207 ∷ negsuc 94189 ∷ negsuc 51203 ∷ pos 43295 ∷ pos 76694 ∷ pos 19934 ∷
    negsuc 51296 ∷ negsuc 55526 ∷ pos 2643 ∷ pos 49670 ∷ pos 34831 ∷ negsuc 16493 ∷ negsuc 42045 ∷
    negsuc 17315 ∷ pos 22817 ∷ pos 31683 ∷ pos 4315 ∷ negsuc 23493 ∷ negsuc 21112 ∷ pos 3980 ∷ pos 20592 ∷
    pos 11990 ∷ negsuc 8174 ∷ negsuc 15977 ∷ negsuc 5127 ∷ pos 9295 ∷ pos 11076 ∷ pos 650 ∷ negsuc 8481 ∷
    negsuc 6808 ∷ pos 1748 ∷ pos 6711 ∷ pos 3572 ∷ negsuc 2654 ∷ negsuc 4776 ∷ negsuc 1492 ∷ pos 2556 ∷
    pos 3002 ∷ pos 234 ∷ negsuc 2153 ∷ negsuc 1855 ∷ pos 116 ∷ pos 1321 ∷ pos 726 ∷ negsuc 659 ∷ negsuc 1345 ∷
    negsuc 920 ∷ negsuc 70 ∷ pos 421 ∷ pos 392 ∷ pos 159 ∷ []

unfoldable pub F80 : List ℤ
F80 =
    pos 7943420 ∷ pos 5321383 ∷ pos 444497 ∷ negsuc 1720402 ∷ negsuc 436849 ∷ pos 969397 ∷ pos 424316 ∷
    negsuc 627239 ∷ negsuc 407207 ∷ pos 423287 ∷ pos 385945 ∷ negsuc 284137 ∷ negsuc 361042 ∷ pos 181839 ∷
    pos 333097 ∷ negsuc 103509 ∷ negsuc 302758 ∷ pos 42406 ∷ pos 270721 ∷ pos 5376 ∷ negsuc 237689 ∷
    negsuc 42309 ∷ pos 204365 ∷ pos 70106 ∷ negsuc 171422 ∷ negsuc 90061 ∷ pos 139493 ∷ pos 103247 ∷
    negsuc 109139 ∷ negsuc 110591 ∷ pos 80856 ∷ pos 112960 ∷ negsuc 55041 ∷ negsuc 111157 ∷ pos 32009 ∷
    pos 105959 ∷ negsuc 11965 ∷ negsuc 98096 ∷ negsuc 4971 ∷ pos 88264 ∷ pos 18787 ∷ negsuc 77105 ∷
    negsuc 29546 ∷ pos 65210 ∷ pos 37399 ∷ negsuc 53098 ∷ negsuc 42553 ∷ pos 41226 ∷ pos 45281 ∷ negsuc 29969 ∷
    negsuc 45886 ∷ pos 19629 ∷ pos 44704 ∷ negsuc 10426 ∷ negsuc 42075 ∷ pos 2513 ∷ pos 38349 ∷ pos 4034 ∷
    negsuc 33851 ∷ negsuc 9199 ∷ pos 28893 ∷ pos 13023 ∷ negsuc 23748 ∷ negsuc 15589 ∷ pos 18658 ∷ pos 17023 ∷
    negsuc 13818 ∷ negsuc 17468 ∷ pos 9387 ∷ pos 17093 ∷ negsuc 5471 ∷ negsuc 16064 ∷ pos 2145 ∷ pos 14555 ∷
    pos 562 ∷ negsuc 12722 ∷ negsuc 2648 ∷ pos 10717 ∷ pos 4145 ∷ negsuc 8663 ∷ negsuc 5100 ∷ pos 6672 ∷
    pos 5584 ∷ negsuc 4822 ∷ negsuc 5669 ∷ pos 3179 ∷ pos 5441 ∷ negsuc 1777 ∷ negsuc 4978 ∷ pos 639 ∷
    pos 4362 ∷ pos 236 ∷ negsuc 3657 ∷ negsuc 861 ∷ pos 2929 ∷ pos 1261 ∷ negsuc 2221 ∷ negsuc 1466 ∷ pos 1575 ∷
    pos 1514 ∷ negsuc 1012 ∷ negsuc 1441 ∷ pos 551 ∷ pos 1287 ∷ negsuc 193 ∷ negsuc 1086 ∷ negsuc 60 ∷ pos 869 ∷
    pos 229 ∷ negsuc 672 ∷ negsuc 329 ∷ pos 523 ∷ pos 453 ∷ negsuc 451 ∷ negsuc 982 ∷ negsuc 728 ∷ negsuc 216 ∷ []
