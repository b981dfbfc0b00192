use Prim.Native.Nat.{ℕ}
use mathlib.Core.Path.{◌≡◌, refl, sym, ap}
use lib.ListN.{get_or}
use Rattle.arith.proofs.TableLaws.{past_end}
use Rattle.leap_calm.specs.Table.{rest_table}
use Rattle.leap_calm.proofs.rest_entry.Goals as goal

-- the entry of a place that is known
arm : {place k : ℕ} → place ≡ k → get_or rest_table k 0 ≡ get_or rest_table place 0
arm e = ap (λ (z : ℕ). get_or rest_table z 0) (sym e)

pub returns-in_default : goal.returns-in_default
returns-in_default c = past_end rest_table 512 c.args.place refl c.in_default.in_default-own.rest

pub returns-in-0 : goal.returns-in-0
returns-in-0 c = arm c.in-0.is

pub returns-in-1 : goal.returns-in-1
returns-in-1 c = arm c.in-1.is

pub returns-in-2 : goal.returns-in-2
returns-in-2 c = arm c.in-2.is

pub returns-in-3 : goal.returns-in-3
returns-in-3 c = arm c.in-3.is

pub returns-in-4 : goal.returns-in-4
returns-in-4 c = arm c.in-4.is

pub returns-in-5 : goal.returns-in-5
returns-in-5 c = arm c.in-5.is

pub returns-in-6 : goal.returns-in-6
returns-in-6 c = arm c.in-6.is

pub returns-in-7 : goal.returns-in-7
returns-in-7 c = arm c.in-7.is

pub returns-in-8 : goal.returns-in-8
returns-in-8 c = arm c.in-8.is

pub returns-in-9 : goal.returns-in-9
returns-in-9 c = arm c.in-9.is

pub returns-in-10 : goal.returns-in-10
returns-in-10 c = arm c.in-10.is

pub returns-in-11 : goal.returns-in-11
returns-in-11 c = arm c.in-11.is

pub returns-in-12 : goal.returns-in-12
returns-in-12 c = arm c.in-12.is

pub returns-in-13 : goal.returns-in-13
returns-in-13 c = arm c.in-13.is

pub returns-in-14 : goal.returns-in-14
returns-in-14 c = arm c.in-14.is

pub returns-in-15 : goal.returns-in-15
returns-in-15 c = arm c.in-15.is

pub returns-in-16 : goal.returns-in-16
returns-in-16 c = arm c.in-16.is

pub returns-in-17 : goal.returns-in-17
returns-in-17 c = arm c.in-17.is

pub returns-in-18 : goal.returns-in-18
returns-in-18 c = arm c.in-18.is

pub returns-in-19 : goal.returns-in-19
returns-in-19 c = arm c.in-19.is

pub returns-in-20 : goal.returns-in-20
returns-in-20 c = arm c.in-20.is

pub returns-in-21 : goal.returns-in-21
returns-in-21 c = arm c.in-21.is

pub returns-in-22 : goal.returns-in-22
returns-in-22 c = arm c.in-22.is

pub returns-in-23 : goal.returns-in-23
returns-in-23 c = arm c.in-23.is

pub returns-in-24 : goal.returns-in-24
returns-in-24 c = arm c.in-24.is

pub returns-in-25 : goal.returns-in-25
returns-in-25 c = arm c.in-25.is

pub returns-in-26 : goal.returns-in-26
returns-in-26 c = arm c.in-26.is

pub returns-in-27 : goal.returns-in-27
returns-in-27 c = arm c.in-27.is

pub returns-in-28 : goal.returns-in-28
returns-in-28 c = arm c.in-28.is

pub returns-in-29 : goal.returns-in-29
returns-in-29 c = arm c.in-29.is

pub returns-in-30 : goal.returns-in-30
returns-in-30 c = arm c.in-30.is

pub returns-in-31 : goal.returns-in-31
returns-in-31 c = arm c.in-31.is

pub returns-in-32 : goal.returns-in-32
returns-in-32 c = arm c.in-32.is

pub returns-in-33 : goal.returns-in-33
returns-in-33 c = arm c.in-33.is

pub returns-in-34 : goal.returns-in-34
returns-in-34 c = arm c.in-34.is

pub returns-in-35 : goal.returns-in-35
returns-in-35 c = arm c.in-35.is

pub returns-in-36 : goal.returns-in-36
returns-in-36 c = arm c.in-36.is

pub returns-in-37 : goal.returns-in-37
returns-in-37 c = arm c.in-37.is

pub returns-in-38 : goal.returns-in-38
returns-in-38 c = arm c.in-38.is

pub returns-in-39 : goal.returns-in-39
returns-in-39 c = arm c.in-39.is

pub returns-in-40 : goal.returns-in-40
returns-in-40 c = arm c.in-40.is

pub returns-in-41 : goal.returns-in-41
returns-in-41 c = arm c.in-41.is

pub returns-in-42 : goal.returns-in-42
returns-in-42 c = arm c.in-42.is

pub returns-in-43 : goal.returns-in-43
returns-in-43 c = arm c.in-43.is

pub returns-in-44 : goal.returns-in-44
returns-in-44 c = arm c.in-44.is

pub returns-in-45 : goal.returns-in-45
returns-in-45 c = arm c.in-45.is

pub returns-in-46 : goal.returns-in-46
returns-in-46 c = arm c.in-46.is

pub returns-in-47 : goal.returns-in-47
returns-in-47 c = arm c.in-47.is

pub returns-in-48 : goal.returns-in-48
returns-in-48 c = arm c.in-48.is

pub returns-in-49 : goal.returns-in-49
returns-in-49 c = arm c.in-49.is

pub returns-in-50 : goal.returns-in-50
returns-in-50 c = arm c.in-50.is

pub returns-in-51 : goal.returns-in-51
returns-in-51 c = arm c.in-51.is

pub returns-in-52 : goal.returns-in-52
returns-in-52 c = arm c.in-52.is

pub returns-in-53 : goal.returns-in-53
returns-in-53 c = arm c.in-53.is

pub returns-in-54 : goal.returns-in-54
returns-in-54 c = arm c.in-54.is

pub returns-in-55 : goal.returns-in-55
returns-in-55 c = arm c.in-55.is

pub returns-in-56 : goal.returns-in-56
returns-in-56 c = arm c.in-56.is

pub returns-in-57 : goal.returns-in-57
returns-in-57 c = arm c.in-57.is

pub returns-in-58 : goal.returns-in-58
returns-in-58 c = arm c.in-58.is

pub returns-in-59 : goal.returns-in-59
returns-in-59 c = arm c.in-59.is

pub returns-in-60 : goal.returns-in-60
returns-in-60 c = arm c.in-60.is

pub returns-in-61 : goal.returns-in-61
returns-in-61 c = arm c.in-61.is

pub returns-in-62 : goal.returns-in-62
returns-in-62 c = arm c.in-62.is

pub returns-in-63 : goal.returns-in-63
returns-in-63 c = arm c.in-63.is

pub returns-in-64 : goal.returns-in-64
returns-in-64 c = arm c.in-64.is

pub returns-in-65 : goal.returns-in-65
returns-in-65 c = arm c.in-65.is

pub returns-in-66 : goal.returns-in-66
returns-in-66 c = arm c.in-66.is

pub returns-in-67 : goal.returns-in-67
returns-in-67 c = arm c.in-67.is

pub returns-in-68 : goal.returns-in-68
returns-in-68 c = arm c.in-68.is

pub returns-in-69 : goal.returns-in-69
returns-in-69 c = arm c.in-69.is

pub returns-in-70 : goal.returns-in-70
returns-in-70 c = arm c.in-70.is

pub returns-in-71 : goal.returns-in-71
returns-in-71 c = arm c.in-71.is

pub returns-in-72 : goal.returns-in-72
returns-in-72 c = arm c.in-72.is

pub returns-in-73 : goal.returns-in-73
returns-in-73 c = arm c.in-73.is

pub returns-in-74 : goal.returns-in-74
returns-in-74 c = arm c.in-74.is

pub returns-in-75 : goal.returns-in-75
returns-in-75 c = arm c.in-75.is

pub returns-in-76 : goal.returns-in-76
returns-in-76 c = arm c.in-76.is

pub returns-in-77 : goal.returns-in-77
returns-in-77 c = arm c.in-77.is

pub returns-in-78 : goal.returns-in-78
returns-in-78 c = arm c.in-78.is

pub returns-in-79 : goal.returns-in-79
returns-in-79 c = arm c.in-79.is

pub returns-in-80 : goal.returns-in-80
returns-in-80 c = arm c.in-80.is

pub returns-in-81 : goal.returns-in-81
returns-in-81 c = arm c.in-81.is

pub returns-in-82 : goal.returns-in-82
returns-in-82 c = arm c.in-82.is

pub returns-in-83 : goal.returns-in-83
returns-in-83 c = arm c.in-83.is

pub returns-in-84 : goal.returns-in-84
returns-in-84 c = arm c.in-84.is

pub returns-in-85 : goal.returns-in-85
returns-in-85 c = arm c.in-85.is

pub returns-in-86 : goal.returns-in-86
returns-in-86 c = arm c.in-86.is

pub returns-in-87 : goal.returns-in-87
returns-in-87 c = arm c.in-87.is

pub returns-in-88 : goal.returns-in-88
returns-in-88 c = arm c.in-88.is

pub returns-in-89 : goal.returns-in-89
returns-in-89 c = arm c.in-89.is

pub returns-in-90 : goal.returns-in-90
returns-in-90 c = arm c.in-90.is

pub returns-in-91 : goal.returns-in-91
returns-in-91 c = arm c.in-91.is

pub returns-in-92 : goal.returns-in-92
returns-in-92 c = arm c.in-92.is

pub returns-in-93 : goal.returns-in-93
returns-in-93 c = arm c.in-93.is

pub returns-in-94 : goal.returns-in-94
returns-in-94 c = arm c.in-94.is

pub returns-in-95 : goal.returns-in-95
returns-in-95 c = arm c.in-95.is

pub returns-in-96 : goal.returns-in-96
returns-in-96 c = arm c.in-96.is

pub returns-in-97 : goal.returns-in-97
returns-in-97 c = arm c.in-97.is

pub returns-in-98 : goal.returns-in-98
returns-in-98 c = arm c.in-98.is

pub returns-in-99 : goal.returns-in-99
returns-in-99 c = arm c.in-99.is

pub returns-in-100 : goal.returns-in-100
returns-in-100 c = arm c.in-100.is

pub returns-in-101 : goal.returns-in-101
returns-in-101 c = arm c.in-101.is

pub returns-in-102 : goal.returns-in-102
returns-in-102 c = arm c.in-102.is

pub returns-in-103 : goal.returns-in-103
returns-in-103 c = arm c.in-103.is

pub returns-in-104 : goal.returns-in-104
returns-in-104 c = arm c.in-104.is

pub returns-in-105 : goal.returns-in-105
returns-in-105 c = arm c.in-105.is

pub returns-in-106 : goal.returns-in-106
returns-in-106 c = arm c.in-106.is

pub returns-in-107 : goal.returns-in-107
returns-in-107 c = arm c.in-107.is

pub returns-in-108 : goal.returns-in-108
returns-in-108 c = arm c.in-108.is

pub returns-in-109 : goal.returns-in-109
returns-in-109 c = arm c.in-109.is

pub returns-in-110 : goal.returns-in-110
returns-in-110 c = arm c.in-110.is

pub returns-in-111 : goal.returns-in-111
returns-in-111 c = arm c.in-111.is

pub returns-in-112 : goal.returns-in-112
returns-in-112 c = arm c.in-112.is

pub returns-in-113 : goal.returns-in-113
returns-in-113 c = arm c.in-113.is

pub returns-in-114 : goal.returns-in-114
returns-in-114 c = arm c.in-114.is

pub returns-in-115 : goal.returns-in-115
returns-in-115 c = arm c.in-115.is

pub returns-in-116 : goal.returns-in-116
returns-in-116 c = arm c.in-116.is

pub returns-in-117 : goal.returns-in-117
returns-in-117 c = arm c.in-117.is

pub returns-in-118 : goal.returns-in-118
returns-in-118 c = arm c.in-118.is

pub returns-in-119 : goal.returns-in-119
returns-in-119 c = arm c.in-119.is

pub returns-in-120 : goal.returns-in-120
returns-in-120 c = arm c.in-120.is

pub returns-in-121 : goal.returns-in-121
returns-in-121 c = arm c.in-121.is

pub returns-in-122 : goal.returns-in-122
returns-in-122 c = arm c.in-122.is

pub returns-in-123 : goal.returns-in-123
returns-in-123 c = arm c.in-123.is

pub returns-in-124 : goal.returns-in-124
returns-in-124 c = arm c.in-124.is

pub returns-in-125 : goal.returns-in-125
returns-in-125 c = arm c.in-125.is

pub returns-in-126 : goal.returns-in-126
returns-in-126 c = arm c.in-126.is

pub returns-in-127 : goal.returns-in-127
returns-in-127 c = arm c.in-127.is

pub returns-in-128 : goal.returns-in-128
returns-in-128 c = arm c.in-128.is

pub returns-in-129 : goal.returns-in-129
returns-in-129 c = arm c.in-129.is

pub returns-in-130 : goal.returns-in-130
returns-in-130 c = arm c.in-130.is

pub returns-in-131 : goal.returns-in-131
returns-in-131 c = arm c.in-131.is

pub returns-in-132 : goal.returns-in-132
returns-in-132 c = arm c.in-132.is

pub returns-in-133 : goal.returns-in-133
returns-in-133 c = arm c.in-133.is

pub returns-in-134 : goal.returns-in-134
returns-in-134 c = arm c.in-134.is

pub returns-in-135 : goal.returns-in-135
returns-in-135 c = arm c.in-135.is

pub returns-in-136 : goal.returns-in-136
returns-in-136 c = arm c.in-136.is

pub returns-in-137 : goal.returns-in-137
returns-in-137 c = arm c.in-137.is

pub returns-in-138 : goal.returns-in-138
returns-in-138 c = arm c.in-138.is

pub returns-in-139 : goal.returns-in-139
returns-in-139 c = arm c.in-139.is

pub returns-in-140 : goal.returns-in-140
returns-in-140 c = arm c.in-140.is

pub returns-in-141 : goal.returns-in-141
returns-in-141 c = arm c.in-141.is

pub returns-in-142 : goal.returns-in-142
returns-in-142 c = arm c.in-142.is

pub returns-in-143 : goal.returns-in-143
returns-in-143 c = arm c.in-143.is

pub returns-in-144 : goal.returns-in-144
returns-in-144 c = arm c.in-144.is

pub returns-in-145 : goal.returns-in-145
returns-in-145 c = arm c.in-145.is

pub returns-in-146 : goal.returns-in-146
returns-in-146 c = arm c.in-146.is

pub returns-in-147 : goal.returns-in-147
returns-in-147 c = arm c.in-147.is

pub returns-in-148 : goal.returns-in-148
returns-in-148 c = arm c.in-148.is

pub returns-in-149 : goal.returns-in-149
returns-in-149 c = arm c.in-149.is

pub returns-in-150 : goal.returns-in-150
returns-in-150 c = arm c.in-150.is

pub returns-in-151 : goal.returns-in-151
returns-in-151 c = arm c.in-151.is

pub returns-in-152 : goal.returns-in-152
returns-in-152 c = arm c.in-152.is

pub returns-in-153 : goal.returns-in-153
returns-in-153 c = arm c.in-153.is

pub returns-in-154 : goal.returns-in-154
returns-in-154 c = arm c.in-154.is

pub returns-in-155 : goal.returns-in-155
returns-in-155 c = arm c.in-155.is

pub returns-in-156 : goal.returns-in-156
returns-in-156 c = arm c.in-156.is

pub returns-in-157 : goal.returns-in-157
returns-in-157 c = arm c.in-157.is

pub returns-in-158 : goal.returns-in-158
returns-in-158 c = arm c.in-158.is

pub returns-in-159 : goal.returns-in-159
returns-in-159 c = arm c.in-159.is

pub returns-in-160 : goal.returns-in-160
returns-in-160 c = arm c.in-160.is

pub returns-in-161 : goal.returns-in-161
returns-in-161 c = arm c.in-161.is

pub returns-in-162 : goal.returns-in-162
returns-in-162 c = arm c.in-162.is

pub returns-in-163 : goal.returns-in-163
returns-in-163 c = arm c.in-163.is

pub returns-in-164 : goal.returns-in-164
returns-in-164 c = arm c.in-164.is

pub returns-in-165 : goal.returns-in-165
returns-in-165 c = arm c.in-165.is

pub returns-in-166 : goal.returns-in-166
returns-in-166 c = arm c.in-166.is

pub returns-in-167 : goal.returns-in-167
returns-in-167 c = arm c.in-167.is

pub returns-in-168 : goal.returns-in-168
returns-in-168 c = arm c.in-168.is

pub returns-in-169 : goal.returns-in-169
returns-in-169 c = arm c.in-169.is

pub returns-in-170 : goal.returns-in-170
returns-in-170 c = arm c.in-170.is

pub returns-in-171 : goal.returns-in-171
returns-in-171 c = arm c.in-171.is

pub returns-in-172 : goal.returns-in-172
returns-in-172 c = arm c.in-172.is

pub returns-in-173 : goal.returns-in-173
returns-in-173 c = arm c.in-173.is

pub returns-in-174 : goal.returns-in-174
returns-in-174 c = arm c.in-174.is

pub returns-in-175 : goal.returns-in-175
returns-in-175 c = arm c.in-175.is

pub returns-in-176 : goal.returns-in-176
returns-in-176 c = arm c.in-176.is

pub returns-in-177 : goal.returns-in-177
returns-in-177 c = arm c.in-177.is

pub returns-in-178 : goal.returns-in-178
returns-in-178 c = arm c.in-178.is

pub returns-in-179 : goal.returns-in-179
returns-in-179 c = arm c.in-179.is

pub returns-in-180 : goal.returns-in-180
returns-in-180 c = arm c.in-180.is

pub returns-in-181 : goal.returns-in-181
returns-in-181 c = arm c.in-181.is

pub returns-in-182 : goal.returns-in-182
returns-in-182 c = arm c.in-182.is

pub returns-in-183 : goal.returns-in-183
returns-in-183 c = arm c.in-183.is

pub returns-in-184 : goal.returns-in-184
returns-in-184 c = arm c.in-184.is

pub returns-in-185 : goal.returns-in-185
returns-in-185 c = arm c.in-185.is

pub returns-in-186 : goal.returns-in-186
returns-in-186 c = arm c.in-186.is

pub returns-in-187 : goal.returns-in-187
returns-in-187 c = arm c.in-187.is

pub returns-in-188 : goal.returns-in-188
returns-in-188 c = arm c.in-188.is

pub returns-in-189 : goal.returns-in-189
returns-in-189 c = arm c.in-189.is

pub returns-in-190 : goal.returns-in-190
returns-in-190 c = arm c.in-190.is

pub returns-in-191 : goal.returns-in-191
returns-in-191 c = arm c.in-191.is

pub returns-in-192 : goal.returns-in-192
returns-in-192 c = arm c.in-192.is

pub returns-in-193 : goal.returns-in-193
returns-in-193 c = arm c.in-193.is

pub returns-in-194 : goal.returns-in-194
returns-in-194 c = arm c.in-194.is

pub returns-in-195 : goal.returns-in-195
returns-in-195 c = arm c.in-195.is

pub returns-in-196 : goal.returns-in-196
returns-in-196 c = arm c.in-196.is

pub returns-in-197 : goal.returns-in-197
returns-in-197 c = arm c.in-197.is

pub returns-in-198 : goal.returns-in-198
returns-in-198 c = arm c.in-198.is

pub returns-in-199 : goal.returns-in-199
returns-in-199 c = arm c.in-199.is

pub returns-in-200 : goal.returns-in-200
returns-in-200 c = arm c.in-200.is

pub returns-in-201 : goal.returns-in-201
returns-in-201 c = arm c.in-201.is

pub returns-in-202 : goal.returns-in-202
returns-in-202 c = arm c.in-202.is

pub returns-in-203 : goal.returns-in-203
returns-in-203 c = arm c.in-203.is

pub returns-in-204 : goal.returns-in-204
returns-in-204 c = arm c.in-204.is

pub returns-in-205 : goal.returns-in-205
returns-in-205 c = arm c.in-205.is

pub returns-in-206 : goal.returns-in-206
returns-in-206 c = arm c.in-206.is

pub returns-in-207 : goal.returns-in-207
returns-in-207 c = arm c.in-207.is

pub returns-in-208 : goal.returns-in-208
returns-in-208 c = arm c.in-208.is

pub returns-in-209 : goal.returns-in-209
returns-in-209 c = arm c.in-209.is

pub returns-in-210 : goal.returns-in-210
returns-in-210 c = arm c.in-210.is

pub returns-in-211 : goal.returns-in-211
returns-in-211 c = arm c.in-211.is

pub returns-in-212 : goal.returns-in-212
returns-in-212 c = arm c.in-212.is

pub returns-in-213 : goal.returns-in-213
returns-in-213 c = arm c.in-213.is

pub returns-in-214 : goal.returns-in-214
returns-in-214 c = arm c.in-214.is

pub returns-in-215 : goal.returns-in-215
returns-in-215 c = arm c.in-215.is

pub returns-in-216 : goal.returns-in-216
returns-in-216 c = arm c.in-216.is

pub returns-in-217 : goal.returns-in-217
returns-in-217 c = arm c.in-217.is

pub returns-in-218 : goal.returns-in-218
returns-in-218 c = arm c.in-218.is

pub returns-in-219 : goal.returns-in-219
returns-in-219 c = arm c.in-219.is

pub returns-in-220 : goal.returns-in-220
returns-in-220 c = arm c.in-220.is

pub returns-in-221 : goal.returns-in-221
returns-in-221 c = arm c.in-221.is

pub returns-in-222 : goal.returns-in-222
returns-in-222 c = arm c.in-222.is

pub returns-in-223 : goal.returns-in-223
returns-in-223 c = arm c.in-223.is

pub returns-in-224 : goal.returns-in-224
returns-in-224 c = arm c.in-224.is

pub returns-in-225 : goal.returns-in-225
returns-in-225 c = arm c.in-225.is

pub returns-in-226 : goal.returns-in-226
returns-in-226 c = arm c.in-226.is

pub returns-in-227 : goal.returns-in-227
returns-in-227 c = arm c.in-227.is

pub returns-in-228 : goal.returns-in-228
returns-in-228 c = arm c.in-228.is

pub returns-in-229 : goal.returns-in-229
returns-in-229 c = arm c.in-229.is

pub returns-in-230 : goal.returns-in-230
returns-in-230 c = arm c.in-230.is

pub returns-in-231 : goal.returns-in-231
returns-in-231 c = arm c.in-231.is

pub returns-in-232 : goal.returns-in-232
returns-in-232 c = arm c.in-232.is

pub returns-in-233 : goal.returns-in-233
returns-in-233 c = arm c.in-233.is

pub returns-in-234 : goal.returns-in-234
returns-in-234 c = arm c.in-234.is

pub returns-in-235 : goal.returns-in-235
returns-in-235 c = arm c.in-235.is

pub returns-in-236 : goal.returns-in-236
returns-in-236 c = arm c.in-236.is

pub returns-in-237 : goal.returns-in-237
returns-in-237 c = arm c.in-237.is

pub returns-in-238 : goal.returns-in-238
returns-in-238 c = arm c.in-238.is

pub returns-in-239 : goal.returns-in-239
returns-in-239 c = arm c.in-239.is

pub returns-in-240 : goal.returns-in-240
returns-in-240 c = arm c.in-240.is

pub returns-in-241 : goal.returns-in-241
returns-in-241 c = arm c.in-241.is

pub returns-in-242 : goal.returns-in-242
returns-in-242 c = arm c.in-242.is

pub returns-in-243 : goal.returns-in-243
returns-in-243 c = arm c.in-243.is

pub returns-in-244 : goal.returns-in-244
returns-in-244 c = arm c.in-244.is

pub returns-in-245 : goal.returns-in-245
returns-in-245 c = arm c.in-245.is

pub returns-in-246 : goal.returns-in-246
returns-in-246 c = arm c.in-246.is

pub returns-in-247 : goal.returns-in-247
returns-in-247 c = arm c.in-247.is

pub returns-in-248 : goal.returns-in-248
returns-in-248 c = arm c.in-248.is

pub returns-in-249 : goal.returns-in-249
returns-in-249 c = arm c.in-249.is

pub returns-in-250 : goal.returns-in-250
returns-in-250 c = arm c.in-250.is

pub returns-in-251 : goal.returns-in-251
returns-in-251 c = arm c.in-251.is

pub returns-in-252 : goal.returns-in-252
returns-in-252 c = arm c.in-252.is

pub returns-in-253 : goal.returns-in-253
returns-in-253 c = arm c.in-253.is

pub returns-in-254 : goal.returns-in-254
returns-in-254 c = arm c.in-254.is

pub returns-in-255 : goal.returns-in-255
returns-in-255 c = arm c.in-255.is

pub returns-in-256 : goal.returns-in-256
returns-in-256 c = arm c.in-256.is

pub returns-in-257 : goal.returns-in-257
returns-in-257 c = arm c.in-257.is

pub returns-in-258 : goal.returns-in-258
returns-in-258 c = arm c.in-258.is

pub returns-in-259 : goal.returns-in-259
returns-in-259 c = arm c.in-259.is

pub returns-in-260 : goal.returns-in-260
returns-in-260 c = arm c.in-260.is

pub returns-in-261 : goal.returns-in-261
returns-in-261 c = arm c.in-261.is

pub returns-in-262 : goal.returns-in-262
returns-in-262 c = arm c.in-262.is

pub returns-in-263 : goal.returns-in-263
returns-in-263 c = arm c.in-263.is

pub returns-in-264 : goal.returns-in-264
returns-in-264 c = arm c.in-264.is

pub returns-in-265 : goal.returns-in-265
returns-in-265 c = arm c.in-265.is

pub returns-in-266 : goal.returns-in-266
returns-in-266 c = arm c.in-266.is

pub returns-in-267 : goal.returns-in-267
returns-in-267 c = arm c.in-267.is

pub returns-in-268 : goal.returns-in-268
returns-in-268 c = arm c.in-268.is

pub returns-in-269 : goal.returns-in-269
returns-in-269 c = arm c.in-269.is

pub returns-in-270 : goal.returns-in-270
returns-in-270 c = arm c.in-270.is

pub returns-in-271 : goal.returns-in-271
returns-in-271 c = arm c.in-271.is

pub returns-in-272 : goal.returns-in-272
returns-in-272 c = arm c.in-272.is

pub returns-in-273 : goal.returns-in-273
returns-in-273 c = arm c.in-273.is

pub returns-in-274 : goal.returns-in-274
returns-in-274 c = arm c.in-274.is

pub returns-in-275 : goal.returns-in-275
returns-in-275 c = arm c.in-275.is

pub returns-in-276 : goal.returns-in-276
returns-in-276 c = arm c.in-276.is

pub returns-in-277 : goal.returns-in-277
returns-in-277 c = arm c.in-277.is

pub returns-in-278 : goal.returns-in-278
returns-in-278 c = arm c.in-278.is

pub returns-in-279 : goal.returns-in-279
returns-in-279 c = arm c.in-279.is

pub returns-in-280 : goal.returns-in-280
returns-in-280 c = arm c.in-280.is

pub returns-in-281 : goal.returns-in-281
returns-in-281 c = arm c.in-281.is

pub returns-in-282 : goal.returns-in-282
returns-in-282 c = arm c.in-282.is

pub returns-in-283 : goal.returns-in-283
returns-in-283 c = arm c.in-283.is

pub returns-in-284 : goal.returns-in-284
returns-in-284 c = arm c.in-284.is

pub returns-in-285 : goal.returns-in-285
returns-in-285 c = arm c.in-285.is

pub returns-in-286 : goal.returns-in-286
returns-in-286 c = arm c.in-286.is

pub returns-in-287 : goal.returns-in-287
returns-in-287 c = arm c.in-287.is

pub returns-in-288 : goal.returns-in-288
returns-in-288 c = arm c.in-288.is

pub returns-in-289 : goal.returns-in-289
returns-in-289 c = arm c.in-289.is

pub returns-in-290 : goal.returns-in-290
returns-in-290 c = arm c.in-290.is

pub returns-in-291 : goal.returns-in-291
returns-in-291 c = arm c.in-291.is

pub returns-in-292 : goal.returns-in-292
returns-in-292 c = arm c.in-292.is

pub returns-in-293 : goal.returns-in-293
returns-in-293 c = arm c.in-293.is

pub returns-in-294 : goal.returns-in-294
returns-in-294 c = arm c.in-294.is

pub returns-in-295 : goal.returns-in-295
returns-in-295 c = arm c.in-295.is

pub returns-in-296 : goal.returns-in-296
returns-in-296 c = arm c.in-296.is

pub returns-in-297 : goal.returns-in-297
returns-in-297 c = arm c.in-297.is

pub returns-in-298 : goal.returns-in-298
returns-in-298 c = arm c.in-298.is

pub returns-in-299 : goal.returns-in-299
returns-in-299 c = arm c.in-299.is

pub returns-in-300 : goal.returns-in-300
returns-in-300 c = arm c.in-300.is

pub returns-in-301 : goal.returns-in-301
returns-in-301 c = arm c.in-301.is

pub returns-in-302 : goal.returns-in-302
returns-in-302 c = arm c.in-302.is

pub returns-in-303 : goal.returns-in-303
returns-in-303 c = arm c.in-303.is

pub returns-in-304 : goal.returns-in-304
returns-in-304 c = arm c.in-304.is

pub returns-in-305 : goal.returns-in-305
returns-in-305 c = arm c.in-305.is

pub returns-in-306 : goal.returns-in-306
returns-in-306 c = arm c.in-306.is

pub returns-in-307 : goal.returns-in-307
returns-in-307 c = arm c.in-307.is

pub returns-in-308 : goal.returns-in-308
returns-in-308 c = arm c.in-308.is

pub returns-in-309 : goal.returns-in-309
returns-in-309 c = arm c.in-309.is

pub returns-in-310 : goal.returns-in-310
returns-in-310 c = arm c.in-310.is

pub returns-in-311 : goal.returns-in-311
returns-in-311 c = arm c.in-311.is

pub returns-in-312 : goal.returns-in-312
returns-in-312 c = arm c.in-312.is

pub returns-in-313 : goal.returns-in-313
returns-in-313 c = arm c.in-313.is

pub returns-in-314 : goal.returns-in-314
returns-in-314 c = arm c.in-314.is

pub returns-in-315 : goal.returns-in-315
returns-in-315 c = arm c.in-315.is

pub returns-in-316 : goal.returns-in-316
returns-in-316 c = arm c.in-316.is

pub returns-in-317 : goal.returns-in-317
returns-in-317 c = arm c.in-317.is

pub returns-in-318 : goal.returns-in-318
returns-in-318 c = arm c.in-318.is

pub returns-in-319 : goal.returns-in-319
returns-in-319 c = arm c.in-319.is

pub returns-in-320 : goal.returns-in-320
returns-in-320 c = arm c.in-320.is

pub returns-in-321 : goal.returns-in-321
returns-in-321 c = arm c.in-321.is

pub returns-in-322 : goal.returns-in-322
returns-in-322 c = arm c.in-322.is

pub returns-in-323 : goal.returns-in-323
returns-in-323 c = arm c.in-323.is

pub returns-in-324 : goal.returns-in-324
returns-in-324 c = arm c.in-324.is

pub returns-in-325 : goal.returns-in-325
returns-in-325 c = arm c.in-325.is

pub returns-in-326 : goal.returns-in-326
returns-in-326 c = arm c.in-326.is

pub returns-in-327 : goal.returns-in-327
returns-in-327 c = arm c.in-327.is

pub returns-in-328 : goal.returns-in-328
returns-in-328 c = arm c.in-328.is

pub returns-in-329 : goal.returns-in-329
returns-in-329 c = arm c.in-329.is

pub returns-in-330 : goal.returns-in-330
returns-in-330 c = arm c.in-330.is

pub returns-in-331 : goal.returns-in-331
returns-in-331 c = arm c.in-331.is

pub returns-in-332 : goal.returns-in-332
returns-in-332 c = arm c.in-332.is

pub returns-in-333 : goal.returns-in-333
returns-in-333 c = arm c.in-333.is

pub returns-in-334 : goal.returns-in-334
returns-in-334 c = arm c.in-334.is

pub returns-in-335 : goal.returns-in-335
returns-in-335 c = arm c.in-335.is

pub returns-in-336 : goal.returns-in-336
returns-in-336 c = arm c.in-336.is

pub returns-in-337 : goal.returns-in-337
returns-in-337 c = arm c.in-337.is

pub returns-in-338 : goal.returns-in-338
returns-in-338 c = arm c.in-338.is

pub returns-in-339 : goal.returns-in-339
returns-in-339 c = arm c.in-339.is

pub returns-in-340 : goal.returns-in-340
returns-in-340 c = arm c.in-340.is

pub returns-in-341 : goal.returns-in-341
returns-in-341 c = arm c.in-341.is

pub returns-in-342 : goal.returns-in-342
returns-in-342 c = arm c.in-342.is

pub returns-in-343 : goal.returns-in-343
returns-in-343 c = arm c.in-343.is

pub returns-in-344 : goal.returns-in-344
returns-in-344 c = arm c.in-344.is

pub returns-in-345 : goal.returns-in-345
returns-in-345 c = arm c.in-345.is

pub returns-in-346 : goal.returns-in-346
returns-in-346 c = arm c.in-346.is

pub returns-in-347 : goal.returns-in-347
returns-in-347 c = arm c.in-347.is

pub returns-in-348 : goal.returns-in-348
returns-in-348 c = arm c.in-348.is

pub returns-in-349 : goal.returns-in-349
returns-in-349 c = arm c.in-349.is

pub returns-in-350 : goal.returns-in-350
returns-in-350 c = arm c.in-350.is

pub returns-in-351 : goal.returns-in-351
returns-in-351 c = arm c.in-351.is

pub returns-in-352 : goal.returns-in-352
returns-in-352 c = arm c.in-352.is

pub returns-in-353 : goal.returns-in-353
returns-in-353 c = arm c.in-353.is

pub returns-in-354 : goal.returns-in-354
returns-in-354 c = arm c.in-354.is

pub returns-in-355 : goal.returns-in-355
returns-in-355 c = arm c.in-355.is

pub returns-in-356 : goal.returns-in-356
returns-in-356 c = arm c.in-356.is

pub returns-in-357 : goal.returns-in-357
returns-in-357 c = arm c.in-357.is

pub returns-in-358 : goal.returns-in-358
returns-in-358 c = arm c.in-358.is

pub returns-in-359 : goal.returns-in-359
returns-in-359 c = arm c.in-359.is

pub returns-in-360 : goal.returns-in-360
returns-in-360 c = arm c.in-360.is

pub returns-in-361 : goal.returns-in-361
returns-in-361 c = arm c.in-361.is

pub returns-in-362 : goal.returns-in-362
returns-in-362 c = arm c.in-362.is

pub returns-in-363 : goal.returns-in-363
returns-in-363 c = arm c.in-363.is

pub returns-in-364 : goal.returns-in-364
returns-in-364 c = arm c.in-364.is

pub returns-in-365 : goal.returns-in-365
returns-in-365 c = arm c.in-365.is

pub returns-in-366 : goal.returns-in-366
returns-in-366 c = arm c.in-366.is

pub returns-in-367 : goal.returns-in-367
returns-in-367 c = arm c.in-367.is

pub returns-in-368 : goal.returns-in-368
returns-in-368 c = arm c.in-368.is

pub returns-in-369 : goal.returns-in-369
returns-in-369 c = arm c.in-369.is

pub returns-in-370 : goal.returns-in-370
returns-in-370 c = arm c.in-370.is

pub returns-in-371 : goal.returns-in-371
returns-in-371 c = arm c.in-371.is

pub returns-in-372 : goal.returns-in-372
returns-in-372 c = arm c.in-372.is

pub returns-in-373 : goal.returns-in-373
returns-in-373 c = arm c.in-373.is

pub returns-in-374 : goal.returns-in-374
returns-in-374 c = arm c.in-374.is

pub returns-in-375 : goal.returns-in-375
returns-in-375 c = arm c.in-375.is

pub returns-in-376 : goal.returns-in-376
returns-in-376 c = arm c.in-376.is

pub returns-in-377 : goal.returns-in-377
returns-in-377 c = arm c.in-377.is

pub returns-in-378 : goal.returns-in-378
returns-in-378 c = arm c.in-378.is

pub returns-in-379 : goal.returns-in-379
returns-in-379 c = arm c.in-379.is

pub returns-in-380 : goal.returns-in-380
returns-in-380 c = arm c.in-380.is

pub returns-in-381 : goal.returns-in-381
returns-in-381 c = arm c.in-381.is

pub returns-in-382 : goal.returns-in-382
returns-in-382 c = arm c.in-382.is

pub returns-in-383 : goal.returns-in-383
returns-in-383 c = arm c.in-383.is

pub returns-in-384 : goal.returns-in-384
returns-in-384 c = arm c.in-384.is

pub returns-in-385 : goal.returns-in-385
returns-in-385 c = arm c.in-385.is

pub returns-in-386 : goal.returns-in-386
returns-in-386 c = arm c.in-386.is

pub returns-in-387 : goal.returns-in-387
returns-in-387 c = arm c.in-387.is

pub returns-in-388 : goal.returns-in-388
returns-in-388 c = arm c.in-388.is

pub returns-in-389 : goal.returns-in-389
returns-in-389 c = arm c.in-389.is

pub returns-in-390 : goal.returns-in-390
returns-in-390 c = arm c.in-390.is

pub returns-in-391 : goal.returns-in-391
returns-in-391 c = arm c.in-391.is

pub returns-in-392 : goal.returns-in-392
returns-in-392 c = arm c.in-392.is

pub returns-in-393 : goal.returns-in-393
returns-in-393 c = arm c.in-393.is

pub returns-in-394 : goal.returns-in-394
returns-in-394 c = arm c.in-394.is

pub returns-in-395 : goal.returns-in-395
returns-in-395 c = arm c.in-395.is

pub returns-in-396 : goal.returns-in-396
returns-in-396 c = arm c.in-396.is

pub returns-in-397 : goal.returns-in-397
returns-in-397 c = arm c.in-397.is

pub returns-in-398 : goal.returns-in-398
returns-in-398 c = arm c.in-398.is

pub returns-in-399 : goal.returns-in-399
returns-in-399 c = arm c.in-399.is

pub returns-in-400 : goal.returns-in-400
returns-in-400 c = arm c.in-400.is

pub returns-in-401 : goal.returns-in-401
returns-in-401 c = arm c.in-401.is

pub returns-in-402 : goal.returns-in-402
returns-in-402 c = arm c.in-402.is

pub returns-in-403 : goal.returns-in-403
returns-in-403 c = arm c.in-403.is

pub returns-in-404 : goal.returns-in-404
returns-in-404 c = arm c.in-404.is

pub returns-in-405 : goal.returns-in-405
returns-in-405 c = arm c.in-405.is

pub returns-in-406 : goal.returns-in-406
returns-in-406 c = arm c.in-406.is

pub returns-in-407 : goal.returns-in-407
returns-in-407 c = arm c.in-407.is

pub returns-in-408 : goal.returns-in-408
returns-in-408 c = arm c.in-408.is

pub returns-in-409 : goal.returns-in-409
returns-in-409 c = arm c.in-409.is

pub returns-in-410 : goal.returns-in-410
returns-in-410 c = arm c.in-410.is

pub returns-in-411 : goal.returns-in-411
returns-in-411 c = arm c.in-411.is

pub returns-in-412 : goal.returns-in-412
returns-in-412 c = arm c.in-412.is

pub returns-in-413 : goal.returns-in-413
returns-in-413 c = arm c.in-413.is

pub returns-in-414 : goal.returns-in-414
returns-in-414 c = arm c.in-414.is

pub returns-in-415 : goal.returns-in-415
returns-in-415 c = arm c.in-415.is

pub returns-in-416 : goal.returns-in-416
returns-in-416 c = arm c.in-416.is

pub returns-in-417 : goal.returns-in-417
returns-in-417 c = arm c.in-417.is

pub returns-in-418 : goal.returns-in-418
returns-in-418 c = arm c.in-418.is

pub returns-in-419 : goal.returns-in-419
returns-in-419 c = arm c.in-419.is

pub returns-in-420 : goal.returns-in-420
returns-in-420 c = arm c.in-420.is

pub returns-in-421 : goal.returns-in-421
returns-in-421 c = arm c.in-421.is

pub returns-in-422 : goal.returns-in-422
returns-in-422 c = arm c.in-422.is

pub returns-in-423 : goal.returns-in-423
returns-in-423 c = arm c.in-423.is

pub returns-in-424 : goal.returns-in-424
returns-in-424 c = arm c.in-424.is

pub returns-in-425 : goal.returns-in-425
returns-in-425 c = arm c.in-425.is

pub returns-in-426 : goal.returns-in-426
returns-in-426 c = arm c.in-426.is

pub returns-in-427 : goal.returns-in-427
returns-in-427 c = arm c.in-427.is

pub returns-in-428 : goal.returns-in-428
returns-in-428 c = arm c.in-428.is

pub returns-in-429 : goal.returns-in-429
returns-in-429 c = arm c.in-429.is

pub returns-in-430 : goal.returns-in-430
returns-in-430 c = arm c.in-430.is

pub returns-in-431 : goal.returns-in-431
returns-in-431 c = arm c.in-431.is

pub returns-in-432 : goal.returns-in-432
returns-in-432 c = arm c.in-432.is

pub returns-in-433 : goal.returns-in-433
returns-in-433 c = arm c.in-433.is

pub returns-in-434 : goal.returns-in-434
returns-in-434 c = arm c.in-434.is

pub returns-in-435 : goal.returns-in-435
returns-in-435 c = arm c.in-435.is

pub returns-in-436 : goal.returns-in-436
returns-in-436 c = arm c.in-436.is

pub returns-in-437 : goal.returns-in-437
returns-in-437 c = arm c.in-437.is

pub returns-in-438 : goal.returns-in-438
returns-in-438 c = arm c.in-438.is

pub returns-in-439 : goal.returns-in-439
returns-in-439 c = arm c.in-439.is

pub returns-in-440 : goal.returns-in-440
returns-in-440 c = arm c.in-440.is

pub returns-in-441 : goal.returns-in-441
returns-in-441 c = arm c.in-441.is

pub returns-in-442 : goal.returns-in-442
returns-in-442 c = arm c.in-442.is

pub returns-in-443 : goal.returns-in-443
returns-in-443 c = arm c.in-443.is

pub returns-in-444 : goal.returns-in-444
returns-in-444 c = arm c.in-444.is

pub returns-in-445 : goal.returns-in-445
returns-in-445 c = arm c.in-445.is

pub returns-in-446 : goal.returns-in-446
returns-in-446 c = arm c.in-446.is

pub returns-in-447 : goal.returns-in-447
returns-in-447 c = arm c.in-447.is

pub returns-in-448 : goal.returns-in-448
returns-in-448 c = arm c.in-448.is

pub returns-in-449 : goal.returns-in-449
returns-in-449 c = arm c.in-449.is

pub returns-in-450 : goal.returns-in-450
returns-in-450 c = arm c.in-450.is

pub returns-in-451 : goal.returns-in-451
returns-in-451 c = arm c.in-451.is

pub returns-in-452 : goal.returns-in-452
returns-in-452 c = arm c.in-452.is

pub returns-in-453 : goal.returns-in-453
returns-in-453 c = arm c.in-453.is

pub returns-in-454 : goal.returns-in-454
returns-in-454 c = arm c.in-454.is

pub returns-in-455 : goal.returns-in-455
returns-in-455 c = arm c.in-455.is

pub returns-in-456 : goal.returns-in-456
returns-in-456 c = arm c.in-456.is

pub returns-in-457 : goal.returns-in-457
returns-in-457 c = arm c.in-457.is

pub returns-in-458 : goal.returns-in-458
returns-in-458 c = arm c.in-458.is

pub returns-in-459 : goal.returns-in-459
returns-in-459 c = arm c.in-459.is

pub returns-in-460 : goal.returns-in-460
returns-in-460 c = arm c.in-460.is

pub returns-in-461 : goal.returns-in-461
returns-in-461 c = arm c.in-461.is

pub returns-in-462 : goal.returns-in-462
returns-in-462 c = arm c.in-462.is

pub returns-in-463 : goal.returns-in-463
returns-in-463 c = arm c.in-463.is

pub returns-in-464 : goal.returns-in-464
returns-in-464 c = arm c.in-464.is

pub returns-in-465 : goal.returns-in-465
returns-in-465 c = arm c.in-465.is

pub returns-in-466 : goal.returns-in-466
returns-in-466 c = arm c.in-466.is

pub returns-in-467 : goal.returns-in-467
returns-in-467 c = arm c.in-467.is

pub returns-in-468 : goal.returns-in-468
returns-in-468 c = arm c.in-468.is

pub returns-in-469 : goal.returns-in-469
returns-in-469 c = arm c.in-469.is

pub returns-in-470 : goal.returns-in-470
returns-in-470 c = arm c.in-470.is

pub returns-in-471 : goal.returns-in-471
returns-in-471 c = arm c.in-471.is

pub returns-in-472 : goal.returns-in-472
returns-in-472 c = arm c.in-472.is

pub returns-in-473 : goal.returns-in-473
returns-in-473 c = arm c.in-473.is

pub returns-in-474 : goal.returns-in-474
returns-in-474 c = arm c.in-474.is

pub returns-in-475 : goal.returns-in-475
returns-in-475 c = arm c.in-475.is

pub returns-in-476 : goal.returns-in-476
returns-in-476 c = arm c.in-476.is

pub returns-in-477 : goal.returns-in-477
returns-in-477 c = arm c.in-477.is

pub returns-in-478 : goal.returns-in-478
returns-in-478 c = arm c.in-478.is

pub returns-in-479 : goal.returns-in-479
returns-in-479 c = arm c.in-479.is

pub returns-in-480 : goal.returns-in-480
returns-in-480 c = arm c.in-480.is

pub returns-in-481 : goal.returns-in-481
returns-in-481 c = arm c.in-481.is

pub returns-in-482 : goal.returns-in-482
returns-in-482 c = arm c.in-482.is

pub returns-in-483 : goal.returns-in-483
returns-in-483 c = arm c.in-483.is

pub returns-in-484 : goal.returns-in-484
returns-in-484 c = arm c.in-484.is

pub returns-in-485 : goal.returns-in-485
returns-in-485 c = arm c.in-485.is

pub returns-in-486 : goal.returns-in-486
returns-in-486 c = arm c.in-486.is

pub returns-in-487 : goal.returns-in-487
returns-in-487 c = arm c.in-487.is

pub returns-in-488 : goal.returns-in-488
returns-in-488 c = arm c.in-488.is

pub returns-in-489 : goal.returns-in-489
returns-in-489 c = arm c.in-489.is

pub returns-in-490 : goal.returns-in-490
returns-in-490 c = arm c.in-490.is

pub returns-in-491 : goal.returns-in-491
returns-in-491 c = arm c.in-491.is

pub returns-in-492 : goal.returns-in-492
returns-in-492 c = arm c.in-492.is

pub returns-in-493 : goal.returns-in-493
returns-in-493 c = arm c.in-493.is

pub returns-in-494 : goal.returns-in-494
returns-in-494 c = arm c.in-494.is

pub returns-in-495 : goal.returns-in-495
returns-in-495 c = arm c.in-495.is

pub returns-in-496 : goal.returns-in-496
returns-in-496 c = arm c.in-496.is

pub returns-in-497 : goal.returns-in-497
returns-in-497 c = arm c.in-497.is

pub returns-in-498 : goal.returns-in-498
returns-in-498 c = arm c.in-498.is

pub returns-in-499 : goal.returns-in-499
returns-in-499 c = arm c.in-499.is

pub returns-in-500 : goal.returns-in-500
returns-in-500 c = arm c.in-500.is

pub returns-in-501 : goal.returns-in-501
returns-in-501 c = arm c.in-501.is

pub returns-in-502 : goal.returns-in-502
returns-in-502 c = arm c.in-502.is

pub returns-in-503 : goal.returns-in-503
returns-in-503 c = arm c.in-503.is

pub returns-in-504 : goal.returns-in-504
returns-in-504 c = arm c.in-504.is

pub returns-in-505 : goal.returns-in-505
returns-in-505 c = arm c.in-505.is

pub returns-in-506 : goal.returns-in-506
returns-in-506 c = arm c.in-506.is

pub returns-in-507 : goal.returns-in-507
returns-in-507 c = arm c.in-507.is

pub returns-in-508 : goal.returns-in-508
returns-in-508 c = arm c.in-508.is

pub returns-in-509 : goal.returns-in-509
returns-in-509 c = arm c.in-509.is

pub returns-in-510 : goal.returns-in-510
returns-in-510 c = arm c.in-510.is

pub returns-in-511 : goal.returns-in-511
returns-in-511 c = arm c.in-511.is
